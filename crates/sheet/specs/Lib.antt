pub mod Numbers
pub mod Prepared
pub mod Sheet

pub mod Moving
pub mod Passing
pub mod Rows

pub mod Line
pub mod Stored

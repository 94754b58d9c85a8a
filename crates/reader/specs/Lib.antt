pub mod Largest
pub mod Steps

pub mod Integers
pub mod Sizing

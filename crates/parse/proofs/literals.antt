pub mod Comparing
pub mod Strict

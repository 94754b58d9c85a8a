pub mod Checks
pub mod Counted

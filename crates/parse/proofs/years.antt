pub mod Runs
pub mod YearParts

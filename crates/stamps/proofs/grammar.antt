pub mod Prefixes
pub mod Fractions
pub mod DateTimes

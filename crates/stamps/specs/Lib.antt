pub mod Shape
pub mod Fractions
pub mod Found

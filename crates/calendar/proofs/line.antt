pub mod Cycles
pub mod Signed

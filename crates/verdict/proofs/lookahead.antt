pub mod Literals
pub mod Quick

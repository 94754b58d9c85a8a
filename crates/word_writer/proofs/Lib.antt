pub mod Answers
pub mod Bounds
pub mod Held
pub mod Names
pub mod Texts

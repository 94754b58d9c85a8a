pub mod Letters
pub mod ShortRules
pub mod Steps

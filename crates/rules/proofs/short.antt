pub mod ShortRules

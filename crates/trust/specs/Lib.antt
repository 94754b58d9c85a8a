pub mod Needs
pub mod Ahead
pub mod Check
pub mod ReadBack
pub mod Halves
pub mod Mending

pub mod Fitting
pub mod Literals
pub mod Pieces

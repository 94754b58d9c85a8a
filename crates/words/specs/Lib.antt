pub mod Coding
pub mod Fields
pub mod Joins
pub mod Laying
pub mod Packing
pub mod Pieces
pub mod Rows

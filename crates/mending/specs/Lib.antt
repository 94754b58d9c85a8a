pub mod Asked
pub mod Listing

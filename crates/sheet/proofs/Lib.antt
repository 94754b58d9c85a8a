mod BookFits
mod Determined
pub mod Fits
mod Halves
mod ListFits
mod MendFits
pub mod PreparedDoors
pub mod Rooms
mod StampFits
mod Untrusted

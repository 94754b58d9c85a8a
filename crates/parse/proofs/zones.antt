pub mod Within
pub mod Zoning

pub mod Parts
pub mod Within

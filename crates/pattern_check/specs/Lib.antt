pub mod Input
pub mod Line

pub mod CalendarLine
pub mod Halves
pub mod Laid
pub mod Lists
pub mod NextDays
pub mod Shelves
pub mod Spans
pub mod Widths

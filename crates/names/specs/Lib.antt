pub mod Table
pub mod Lists
pub mod Letters

pub mod First
pub mod Next
pub mod Walk
pub mod Unescaping

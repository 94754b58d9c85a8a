pub mod Checks
pub mod FourDigits
pub mod Places

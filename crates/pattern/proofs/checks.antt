pub mod Checks
pub mod LoneQuote
pub mod Bytes

pub mod Opened
pub mod PreparedRows
pub mod Stands
pub mod Uses
pub mod Verdicts

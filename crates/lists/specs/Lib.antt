pub mod LentRows
pub mod LineReaders
pub mod Walk

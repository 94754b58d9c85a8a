pub mod OpenedRows
pub mod Parts

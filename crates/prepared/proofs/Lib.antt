pub mod AsThePattern
pub mod NarrowCells
pub mod PatternRefusals
pub mod PreparedStands
pub mod RowKinds
pub mod RowParts

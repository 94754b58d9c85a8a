pub mod Answers
pub mod Few
pub mod First
pub mod Inside
pub mod Next
pub mod Scans
pub mod Walks

pub mod Ended
pub mod FromFirst
pub mod Grouped
pub mod RowEnds
pub mod Started

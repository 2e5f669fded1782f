pub mod KeyLife
pub mod KeyLifeRows
pub mod Sides
pub mod Anchors
pub mod Meeting
pub mod Waiting

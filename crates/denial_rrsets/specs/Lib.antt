pub mod Ends
pub mod GroupLaws
pub mod Groups
pub mod Partitions
pub mod Slices
pub mod Starts

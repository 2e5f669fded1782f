pub mod Chain
pub mod Groups

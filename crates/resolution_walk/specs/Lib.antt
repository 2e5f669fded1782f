pub mod Query
pub mod Ended
pub mod Between
pub mod Wanted
pub mod Judged
pub mod Stopping
pub mod Truth
pub mod Laws

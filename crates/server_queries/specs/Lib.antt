pub mod Headers
pub mod Options
pub mod Queries
pub mod Rcodes
pub mod Replies
pub mod Views

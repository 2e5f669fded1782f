pub mod Groups
pub mod Laws
pub mod Read
pub mod Records

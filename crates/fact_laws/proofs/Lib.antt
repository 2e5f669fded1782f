pub mod MoreLinks
pub mod MoreHashes
pub mod MoreFacts
pub mod DueFacts

pub mod AddProofs
pub mod BoundAll
pub mod BoundKeys
pub mod KeyTags
pub mod KeyTagsPublished
pub mod PublishedKeys
pub mod Asking

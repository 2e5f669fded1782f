pub mod Bindings
pub mod BoundView
pub mod KeyCalls
pub mod KeyTags
pub mod NewKeys
pub mod PublishedKeys
pub mod Asking

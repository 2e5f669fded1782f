pub mod Events
pub mod Lives
pub mod Made

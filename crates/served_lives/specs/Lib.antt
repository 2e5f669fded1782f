pub mod Lives
pub mod Made

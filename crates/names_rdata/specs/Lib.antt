pub mod Composing
pub mod ReadBack
pub mod Reading
pub mod Unknown

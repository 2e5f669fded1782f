pub mod Ending
pub mod ReadBack
pub mod TwoParts

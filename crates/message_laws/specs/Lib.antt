pub mod SeenAlike
pub mod InPlace
pub mod Shown
pub mod Given
pub mod Held
pub mod Honest
pub mod Laws

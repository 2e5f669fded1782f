pub mod Heard
pub mod Synthesized
pub mod Aliased
pub mod Redirected

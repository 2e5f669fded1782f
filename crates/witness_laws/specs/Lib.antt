pub mod Zones
pub mod Signed
pub mod Evidence
pub mod Loops

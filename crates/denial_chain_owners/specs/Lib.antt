pub mod Conditions
pub mod Kept
pub mod Refused
pub mod Soa
pub mod Ttls
pub mod Types
pub mod Zones

pub mod Chained
pub mod Cut
pub mod Generated
pub mod Linking
pub mod Short

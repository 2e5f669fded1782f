pub mod Bitmaps
pub mod Hashed
pub mod Nsec
pub mod NsecData

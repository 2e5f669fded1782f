pub mod Choices
pub mod NsecChoices
pub mod Nsec3Choices
pub mod Mistakes
pub mod Falsely

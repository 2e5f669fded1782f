pub mod DelegationErrors
pub mod GroupErrors
pub mod OverGroups
pub mod RefusalErrors
pub mod Untimely

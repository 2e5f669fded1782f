pub mod BesideVerdict
pub mod ChainVerdicts
pub mod ReadCase
pub mod SigningKeys
pub mod VerdictData
pub mod VerifiedGroups

pub mod HeadSteps
pub mod Inversion
pub mod Parsing
pub mod Rows
pub mod Steps
pub mod SuffixSteps
pub mod PassSteps
pub mod Reaching

pub mod DottedTexts
pub mod Chained

pub mod Leading
pub mod Laws

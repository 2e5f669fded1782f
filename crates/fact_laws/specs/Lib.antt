pub mod Laws
pub mod Due

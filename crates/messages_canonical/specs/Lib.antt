pub mod Forms
pub mod Canonical
pub mod InForm
pub mod Walking
pub mod Laws

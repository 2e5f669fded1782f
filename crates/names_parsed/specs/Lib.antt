pub mod Heads
pub mod Orders
pub mod Parsed
pub mod Standing
pub mod Walking
pub mod Passing

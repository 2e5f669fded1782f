pub mod SimulateLoop
pub mod ShownThings
mod RefusedAhead

pub mod Clocks
pub mod ClockRows

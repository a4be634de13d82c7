pub mod Reasons
pub mod Moves
pub mod Leaving
pub mod Steps
pub mod Runs
pub mod Coming
pub mod Parts
pub mod Traces

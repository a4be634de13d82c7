pub mod Sizes
pub mod Images
pub mod Present
pub mod Holdings
pub mod Running

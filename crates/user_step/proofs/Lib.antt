pub mod Writing
pub mod Fetching
pub mod Ahead
pub mod Together
pub mod Downwards
pub mod StaysFixed
pub mod Storing
pub mod Trying

pub mod Rings
pub mod Turning
pub mod Calls
pub mod Marking
pub mod Counting

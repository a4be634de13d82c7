pub mod Neighbours
pub mod Sweeping
pub mod Leaving
pub mod Owners
pub mod Memory
pub mod Dues
pub mod Spans
pub mod Short

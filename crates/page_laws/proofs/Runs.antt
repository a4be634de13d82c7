-- That runs of neighbours are the widest or the longest ones, and what a sweep takes.
pub mod Widest
pub mod Neighbours
pub mod Sweeping

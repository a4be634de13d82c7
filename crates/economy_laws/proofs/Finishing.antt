-- That a run finishes: numbers fall from stage to stage, and from mark to mark.
pub mod Stages
pub mod Dues
pub mod Marks
pub mod Processes
pub mod Wholes

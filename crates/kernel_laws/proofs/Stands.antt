-- That what the coupling asks beside it stands from the start on.
pub mod Changes
pub mod Starts
pub mod Steps

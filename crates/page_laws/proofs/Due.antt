-- That what is due stands, from entry to entry and from change to change.
pub mod Entries
pub mod Spaces
pub mod Changes

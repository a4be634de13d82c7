mod WordLists
pub mod Numerals
mod RunWords
mod Refusals
mod Finding
pub mod Joining
pub mod Requests

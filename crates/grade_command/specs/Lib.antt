pub mod Same
pub mod Grading
pub mod Along
pub mod Telling
pub mod Reading
pub mod Command
pub mod Explaining

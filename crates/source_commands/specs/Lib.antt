pub mod Mistakes
pub mod ProgramFile
pub mod Listing
pub mod Command
pub mod Explaining

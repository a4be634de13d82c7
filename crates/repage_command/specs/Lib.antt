pub mod Grammar
pub mod PartFrom
pub mod Telling
pub mod Judging
pub mod Reading
pub mod Command
pub mod Explaining

pub mod LastLine
pub mod Reading
pub mod Command
pub mod Explaining
pub mod Replayed
pub mod Accepting

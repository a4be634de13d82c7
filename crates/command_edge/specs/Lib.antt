pub mod Answering
pub mod Told
pub mod Asked
pub mod ImageWords
pub mod Ending
pub mod Named
pub mod Looks
pub mod Command

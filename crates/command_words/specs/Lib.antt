pub mod Words
pub mod Asked
pub mod Command
pub mod Documented
pub mod Reasons
pub mod Explaining

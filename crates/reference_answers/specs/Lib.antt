pub mod Grammar
pub mod Adding
pub mod Numbers
pub mod Texts
pub mod Answers
pub mod Sweeps
pub mod Keys
pub mod Command

pub mod Hexadecimal
pub mod Same
pub mod Respelled
pub mod Grammatical
pub mod Shows

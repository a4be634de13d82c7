pub mod Frame
pub mod Lending

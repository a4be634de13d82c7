pub mod Reasoned
pub mod Fronts
pub mod There
pub mod Comes
pub mod Brought
pub mod Copied
pub mod PartReasons
pub mod Lines

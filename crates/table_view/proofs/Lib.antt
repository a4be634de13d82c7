mod Witness
pub mod Segments

pub mod Blocks
pub mod Room
pub mod Extents
pub mod Fields

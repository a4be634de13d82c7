pub mod Order
pub mod Links
pub mod Slots
pub mod Frames
pub mod Fields
pub mod Fresh
pub mod Chains

pub mod Fetching
pub mod Code
pub mod Tried
pub mod OneProof
pub mod FixedCode
pub mod Slots
pub mod SlotLaws

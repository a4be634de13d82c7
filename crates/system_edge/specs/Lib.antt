pub mod Named
pub mod Places
pub mod OneProof
pub mod PlaceLaws
pub mod SwapFiles
pub mod SwapWhole
pub mod OwnFiles

-- What single moves of pages, hands and transfers keep, for the proofs of whole steps.
pub mod InSteps
pub mod Hands
pub mod Cases
pub mod Steps
pub mod Stays
pub mod Taken
pub mod HandRuns
pub mod Transfers
pub mod KeptHands
pub mod Locks
pub mod Parts
pub mod Units
pub mod Puts

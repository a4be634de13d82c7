pub mod Unseen
pub mod Replayed
pub mod FirstRun

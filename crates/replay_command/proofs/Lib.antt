pub mod LastLines
pub mod Transcripts
pub mod Replays
pub mod NameLists
mod Telling
pub mod Shown
pub mod Fronts
pub mod Replayed
pub mod Counts
pub mod Texts
pub mod Lines
pub mod SameImages
pub mod Accepting

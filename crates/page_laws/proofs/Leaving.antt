-- How pages lose their frames, and that dirty ones keep theirs until they are written.
pub mod Changes
pub mod Entries
pub mod Held
pub mod Same
pub mod Dirty

-- That each frame keeps one owner, one file for each kind of step.
pub mod Pages
pub mod Spaces
pub mod Changes
pub mod Runs
pub mod Hands
pub mod Entries
pub mod Serve

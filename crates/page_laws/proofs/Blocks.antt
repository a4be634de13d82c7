-- That each block of swap keeps one owner, and text that nobody shares stays aside.
pub mod Aside
pub mod Changes
pub mod Places
pub mod Steps

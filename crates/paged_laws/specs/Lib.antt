pub mod Led
pub mod Paged

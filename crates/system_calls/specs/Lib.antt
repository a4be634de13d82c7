pub mod Bytes
pub mod Folder

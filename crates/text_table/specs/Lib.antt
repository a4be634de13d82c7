pub mod Texts
pub mod Bitmap
pub mod Entries
pub mod Fields

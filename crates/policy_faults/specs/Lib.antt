pub mod Ring
pub mod Policies
pub mod Kept

pub mod Pushing
pub mod Saving
pub mod Restoring
pub mod Fresh
pub mod Within

pub mod Images
pub mod Names
pub mod Replies

pub mod Lists
pub mod Changing
pub mod Stepping
pub mod Ran
pub mod Touches

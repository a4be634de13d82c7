pub mod Finding
pub mod Lists
pub mod Schedules
pub mod Openings
pub mod Asking

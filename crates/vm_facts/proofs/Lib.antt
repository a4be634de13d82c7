pub mod Lists
pub mod Swap
pub mod Tests
pub mod Below
pub mod Requests

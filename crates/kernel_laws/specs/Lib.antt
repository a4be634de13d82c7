pub mod Processes
pub mod Paging
pub mod Beginning
pub mod Waiting

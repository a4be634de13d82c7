pub mod Loading
pub mod Falling
pub mod Short
pub mod Hits
pub mod Paging
pub mod Ahead
pub mod Together
pub mod Going

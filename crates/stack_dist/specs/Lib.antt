pub mod Lru
pub mod Tree
pub mod Gaps
pub mod Recency

pub mod TreeLaws
pub mod GapLaws
pub mod RecencyLaws
pub mod LruLaws

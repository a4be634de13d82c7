pub mod After
pub mod Snapshots
pub mod FlatRuns
pub mod Acting
pub mod Followed
pub mod NextUnits
pub mod Wanting
pub mod Noting

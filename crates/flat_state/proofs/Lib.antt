pub mod Joins
pub mod PageNames
pub mod PageLists
pub mod Processes
pub mod Spots
pub mod SpotsBeside
pub mod SpaceLaws

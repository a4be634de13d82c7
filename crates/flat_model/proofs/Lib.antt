pub mod Coming
pub mod Folds
pub mod Gathering
pub mod Idle
pub mod Listing
pub mod StepEnds
pub mod Strings

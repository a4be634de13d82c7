-- That the flat bytes of each page stay where its state says.
pub mod Couples
pub mod Changes
pub mod Others
pub mod Pages
pub mod Runs
pub mod Spaces

-- That the swapper chooses as is said of it, and putting a process out ends.
pub mod Choices
pub mod PuttingOut
pub mod Residences

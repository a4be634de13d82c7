pub mod Seats
pub mod Fronts
pub mod Absent
pub mod Idle
pub mod Counts
pub mod Picks
pub mod FewPages

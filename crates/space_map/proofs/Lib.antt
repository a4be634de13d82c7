pub mod WordLaws
pub mod NextPlace

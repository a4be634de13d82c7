pub mod GivingBack
pub mod Wants

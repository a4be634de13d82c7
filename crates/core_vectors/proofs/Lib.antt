pub mod Starting
pub mod Images

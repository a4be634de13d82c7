pub mod Schedules
pub mod Images
pub mod Devices
pub mod Opening
pub mod Asked

pub mod Cans
pub mod Chosen
pub mod Homes
pub mod Recorded
pub mod Frames
pub mod Alongside
mod HandsMove
mod Held
mod Puts
mod Residents

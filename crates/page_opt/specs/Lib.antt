pub mod Plans
pub mod Furthest
pub mod Cache
pub mod PlaceSet
pub mod Held
pub mod Replayed

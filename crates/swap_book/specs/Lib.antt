pub use Rattle.swap_dmap.specs.Chunks
pub mod Owners
pub mod Holdings
pub mod Placing
pub mod Book
pub mod Fields

pub use Rattle.paging_units.specs.LastMoves
pub use Rattle.paging_units.specs.Made
pub use Rattle.paging_units.specs.Stops
pub use Rattle.page_laws.specs.Spans
pub mod Putting
pub mod Runners
pub mod Turns

pub use Rattle.paging_units.proofs.Keeping
pub use Rattle.paging_units.proofs.LastMoves
pub use Rattle.paging_units.proofs.Stopping
pub use Rattle.paging_units.proofs.Units as PagingUnitsUnits
pub mod Seen
pub mod PutUnits
pub mod Leaving
pub mod Holders
pub mod HeldSpaces
pub mod Numbers
pub mod Ranking
pub mod Turning

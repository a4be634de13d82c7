pub use Rattle.swap_book.proofs.PlaceLaws
pub use Rattle.flat_state.proofs.Joins
pub use Rattle.flat_state.proofs.PageNames

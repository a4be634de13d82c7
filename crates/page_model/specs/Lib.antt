pub use Rattle.swap_book.specs.Book
pub use Rattle.swap_book.specs.Holdings
pub use Rattle.swap_book.specs.Owners
pub use Rattle.swap_book.specs.Placing
pub use Rattle.swap_book.specs.declared.Owner
pub use Rattle.swap_book.specs.Chunks
pub use Rattle.flat_state.specs.PageNames
pub use Rattle.flat_state.specs.AoutImageImage as Image
pub use Rattle.flat_state.specs.AoutImageImageSpecs as AoutImageImage
pub use Rattle.flat_state.specs.declared.change.Change
pub use Rattle.flat_state.specs.Change as FlatStateChange
pub use Rattle.flat_state.specs.Journal
pub use Rattle.flat_state.specs.Space
pub use Rattle.flat_state.specs.Flat
pub use Rattle.flat_state.specs.Numbers
pub use Rattle.flat_state.specs.Lenders
pub use Rattle.flat_state.specs.Writes
pub mod Frames
pub mod Pages
pub mod Placement
pub mod Moves
pub mod Steps
pub mod Runs
pub mod Hands
pub mod Reading
pub mod Place
pub mod Serve
pub mod Conditions
pub mod PageBytes
pub mod Dues
pub mod Ownership
pub mod Swapper
pub mod PuttingOut
pub mod Rank
pub mod Stored
pub mod Swapping

pub use Rattle.page_laws.proofs.Blocks.Changes as PageLawsBlocksChanges
pub use Rattle.page_laws.proofs.Blocks.Steps as PageLawsBlocksSteps
pub use Rattle.page_laws.proofs.Due.Changes as PageLawsDueChanges
pub use Rattle.page_laws.proofs.Lists.Frames
pub use Rattle.page_laws.proofs.Lists.Local
pub use Rattle.page_laws.proofs.Lists.Pages as PageLawsListsPages
pub use Rattle.page_laws.proofs.Lists.Parts
pub use Rattle.page_laws.proofs.Moves.Steps as PageLawsMovesSteps
pub use Rattle.page_laws.proofs.Ownership.Changes as PageLawsOwnershipChanges
pub use Rattle.page_laws.proofs.Ownership.Pages as PageLawsOwnershipPages
pub use Rattle.page_laws.proofs.Ownership.Spaces
pub use Rattle.page_laws.proofs.Moves.Units
pub use Rattle.page_laws.proofs.Moves.Stays
pub use Rattle.page_laws.proofs.Bytes.Others
pub use Rattle.page_laws.proofs.Moves.Puts
pub mod Registers
pub mod Machine
pub mod Flat
pub mod Sound
pub mod Pieces
pub mod Stands
pub mod Kept
pub mod PartLeaves
pub mod PartMachines
pub mod PartMoves
pub mod OtherHands

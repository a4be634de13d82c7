pub use Rattle.owner_lines.proofs.Registers
pub use Rattle.owner_lines.proofs.First
pub mod Folds
pub mod Lines
pub mod Validity
pub mod Agreements
pub mod Tallying
pub mod Endings

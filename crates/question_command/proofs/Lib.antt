pub use Rattle.reference_commands.proofs.Names
pub use Rattle.reference_commands.proofs.Openings
pub use Rattle.reference_commands.proofs.Inputs
pub use Rattle.reference_commands.proofs.Runs
pub use Rattle.reference_commands.proofs.RunCommandRuns
pub use Rattle.reference_commands.proofs.Found
pub mod Steps
pub mod Finishes
mod Requests
pub mod Noting
pub mod Asked
pub mod Words
pub mod Limits

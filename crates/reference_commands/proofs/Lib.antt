pub use Rattle.run_command.proofs.Found
pub use Rattle.run_command.proofs.Openings
pub use Rattle.run_command.proofs.Inputs
pub use Rattle.run_command.proofs.Runs as RunCommandRuns
pub use Rattle.run_command.proofs.Replays
pub mod Copies
pub mod Counts
pub mod Names
pub mod Runs
pub mod Owning

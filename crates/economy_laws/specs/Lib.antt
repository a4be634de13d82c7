pub use Rattle.run_laws.specs.Flowing
pub use Rattle.run_laws.specs.Machine
pub use Rattle.run_laws.specs.Running as RunLawsRunning
pub use Rattle.run_laws.specs.Standing
pub use Rattle.run_laws.specs.Turns
pub use Rattle.run_laws.specs.Shown
pub use Rattle.run_laws.specs.Longwords
pub use Rattle.run_laws.specs.Whole
pub use Rattle.run_laws.specs.Files
pub use Rattle.run_laws.specs.Images
pub mod Called
pub mod Lost
pub mod Cleaned
pub mod Worth
pub mod Stretch
pub mod Finishes
pub mod Short
pub mod Few

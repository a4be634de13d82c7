pub use Rattle.proc_run.proofs.Marks
pub use Rattle.proc_run.proofs.SoFar
pub use Rattle.proc_run.proofs.Residing
pub use Rattle.proc_run.proofs.Telling as StepUnitsTelling
pub use Rattle.proc_run.proofs.Tables
pub use Rattle.proc_run.proofs.Swapping
pub use Rattle.proc_run.proofs.Units
pub use Rattle.proc_run.proofs.Turning
pub use Rattle.proc_run.proofs.RunUnitsJournals as Journals
pub mod Readying
pub mod Dispatched
mod Rans
mod Makings
mod Tellings
mod Stepped

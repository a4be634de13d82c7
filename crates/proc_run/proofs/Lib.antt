pub use Rattle.step_units.proofs.Transfers
pub use Rattle.step_units.proofs.LinesContinue
pub use Rattle.step_units.proofs.Asking
pub use Rattle.step_units.proofs.PuttingOut
pub use Rattle.step_units.proofs.Residing
pub use Rattle.step_units.proofs.Running
pub use Rattle.step_units.proofs.SpacesContinue
pub use Rattle.step_units.proofs.StopsKeep
pub use Rattle.step_units.proofs.Copying
pub use Rattle.step_units.proofs.Entering
pub use Rattle.step_units.proofs.Filling
pub use Rattle.step_units.proofs.Leading
pub use Rattle.step_units.proofs.Choosing
pub use Rattle.step_units.proofs.Beginning as StepUnitsBeginning
pub use Rattle.step_units.proofs.Turning
pub use Rattle.step_units.proofs.Finding
pub use Rattle.step_units.proofs.Stopping
pub use Rattle.step_units.proofs.Longwords
pub use Rattle.step_units.proofs.Journals
pub use Rattle.step_units.proofs.Entries
pub use Rattle.step_units.proofs.Accounts
pub use Rattle.step_units.proofs.Stretches
pub use Rattle.step_units.proofs.RunUnitsJournals
pub use Rattle.step_units.proofs.Units
pub use Rattle.step_units.proofs.PutUnits
pub use Rattle.step_units.proofs.Numbers
pub use Rattle.step_units.proofs.Telling
pub use Rattle.step_units.proofs.Tables
pub use Rattle.step_units.proofs.Begun as BegunUnits
pub use Rattle.step_units.proofs.Swapping
pub use Rattle.step_units.proofs.Instructing
pub use Rattle.step_units.proofs.Stepping
pub use Rattle.step_units.proofs.LastMoves
pub mod Firsts
pub mod Shows
pub mod Covering
pub mod Missing
pub mod Calls
pub mod Nexts
pub mod RunsTouching
mod Beginning
pub mod Known
pub mod Runs
pub mod Ready
pub mod Recorded
pub mod Attempts
pub mod Written
pub mod Steps
pub mod Tried
pub mod CallSteps
pub mod CallsMissed
pub mod CallsGoOn
pub mod Made
mod WriteHalts
pub mod Served
pub mod Marks
pub mod SoFar
mod StopsSame
pub mod Stretched
mod Finished
pub mod BegunTold
mod Appended

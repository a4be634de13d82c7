pub use Rattle.step_judge.specs.At
pub use Rattle.vm_core.specs.FirstProcesses as VmCoreStarting
pub use Rattle.vm_core.specs.Leading
pub use Rattle.vm_core.specs.RunEnds
pub mod Past
pub mod Locking
pub mod Units
pub mod Lines
pub mod Moves
pub mod Verdicts
pub mod Starting

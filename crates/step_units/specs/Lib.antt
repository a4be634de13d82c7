pub use Rattle.proc_calls.specs.Growth
pub use Rattle.proc_calls.specs.Touches
pub use Rattle.proc_calls.specs.FaultFillAccessAccess
pub use Rattle.proc_calls.specs.Served
pub use Rattle.swapper.specs.LastMoves
pub use Rattle.swapper.specs.Stops
pub use Rattle.proc_calls.specs.Answered
pub use Rattle.proc_calls.specs.Callers
pub use Rattle.proc_calls.specs.Copying
pub use Rattle.proc_calls.specs.Filling
pub use Rattle.proc_calls.specs.Forking
pub use Rattle.proc_calls.specs.Leaving as ProcCallsLeaving
pub use Rattle.proc_calls.specs.Making as ProcCallsMaking
pub use Rattle.proc_calls.specs.Reading
pub use Rattle.proc_calls.specs.Sizing as ProcCallsSizing
pub use Rattle.proc_calls.specs.Starting
pub use Rattle.proc_calls.specs.Waiting
pub use Rattle.proc_calls.specs.Writing
pub use Rattle.proc_calls.specs.declared.replying.Called
pub use Rattle.run_laws.specs.Running as RunLawsRunning
pub use Rattle.run_units.specs.Filling as RunUnitsFilling
pub use Rattle.run_units.specs.Leads
pub use Rattle.run_units.specs.Serving
pub use Rattle.run_units.specs.Touching
pub use Rattle.run_units.specs.Accounts
pub use Rattle.run_units.specs.Economy
pub use Rattle.run_units.specs.Owners
pub use Rattle.proc_calls.specs.Moved
pub use Rattle.swapper.specs.Runners
pub use Rattle.swapper.specs.Putting
pub use Rattle.swapper.specs.declared.Turned
pub use Rattle.swapper.specs.Turns
pub use Rattle.swapper.specs.Made
pub mod Seen
pub mod Ready
pub mod Sizes
pub mod Entries
pub mod Units
pub mod Calls
pub mod Pages
pub mod LinesContinue
pub mod Machines
pub mod Stepped
pub mod Plain
pub mod Making
pub mod Leaving
pub mod Sizing
pub mod Running
pub mod Lines
pub mod Registers
pub mod Residing
pub mod Rests
pub mod Halfway

pub use Rattle.step_units.specs.Sizes
pub use Rattle.step_units.specs.Stepped
pub use Rattle.step_units.specs.Ready
pub use Rattle.step_units.specs.Lines
pub use Rattle.step_units.specs.Reading
pub use Rattle.step_units.specs.Machines
pub use Rattle.step_units.specs.Registers
pub use Rattle.step_units.specs.Copying
pub use Rattle.step_units.specs.Filling
pub use Rattle.step_units.specs.Rests as StepUnitsRests
pub use Rattle.step_units.specs.Accounts
pub use Rattle.step_units.specs.Economy
pub use Rattle.step_units.specs.Leads
pub use Rattle.step_units.specs.Owners
pub use Rattle.step_units.specs.Serving as RunUnitsServing
pub use Rattle.step_units.specs.Moved
pub use Rattle.step_units.specs.RunUnitsFilling
pub use Rattle.step_units.specs.LastMoves
pub use Rattle.step_units.specs.Stops
pub use Rattle.step_units.specs.Runners
pub use Rattle.step_units.specs.Putting
pub use Rattle.step_units.specs.Turned
pub use Rattle.step_units.specs.Turns
pub use Rattle.step_units.specs.Callers
pub use Rattle.step_units.specs.Growth
pub use Rattle.step_units.specs.Touching as RunUnitsTouching
pub use Rattle.step_units.specs.Made
pub mod Shown
pub mod ShownLaws
pub mod Missed
pub mod Touching
pub mod Choosing
pub mod Runs
pub mod Calls
pub mod Serving
pub mod Running
pub mod Stretch
pub mod Rests

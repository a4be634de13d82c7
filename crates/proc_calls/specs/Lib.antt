pub use Rattle.fault_fill.specs.Forced
pub use Rattle.fault_fill.specs.Moved
pub use Rattle.fault_fill.specs.Access as FaultFillAccessSpecs
pub use Rattle.fault_fill.specs.Answers
pub use Rattle.fault_fill.specs.Growth
pub use Rattle.fault_fill.specs.Serving
pub use Rattle.fault_fill.specs.Touches
pub use Rattle.fault_fill.specs.Units
pub use Rattle.fault_fill.specs.declared.access.Access as FaultFillAccessAccess
pub use Rattle.fault_fill.specs.declared.served.Served
pub use Rattle.page_laws.specs.Spans
pub use Rattle.vfork_pass.specs.Passed
pub use Rattle.call_reads.specs.Reading
pub mod Answered
pub mod Callers
pub mod Leaving
pub mod Copying
pub mod Forking
pub mod Making
pub mod Sizing
pub mod Starting
pub mod Filling
pub mod Waiting
pub mod Writing

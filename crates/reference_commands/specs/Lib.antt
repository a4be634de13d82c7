pub use Rattle.run_command.specs.Asking as RunCommandAsking
pub use Rattle.run_command.specs.Ends as RunCommandEnds
pub use Rattle.run_command.specs.Headline as RunHeadline
pub use Rattle.run_command.specs.Headlines
pub use Rattle.run_command.specs.Outside
pub use Rattle.run_command.specs.Loads
pub use Rattle.run_command.specs.Machines
pub use Rattle.run_command.specs.Paired
pub use Rattle.run_command.specs.Seen
pub use Rattle.run_command.specs.Sight
pub use Rattle.run_command.specs.Naming
pub use Rattle.run_command.specs.Reading as ReplayCommandReading
pub mod Reading
pub mod Asking
pub mod Answering
pub mod Ends
pub mod InMemory

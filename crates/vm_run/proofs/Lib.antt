pub use Rattle.question_command.proofs.Found
pub mod Completing
pub mod Failed
pub mod Telling

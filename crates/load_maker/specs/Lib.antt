pub use Rattle.economy_laws.specs.Few
pub mod Programs
pub mod Load
pub mod Counts
pub mod Stages
pub mod Left
pub mod LoadLaws

pub use Rattle.flat_process.specs.Images
pub mod Verdicts
pub mod Judging
pub mod Following
pub mod Expecting

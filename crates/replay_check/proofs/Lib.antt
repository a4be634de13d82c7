pub mod Judging
pub mod JudgingGrowth
pub mod JudgingOutcomes
pub mod JudgingWrites
pub mod Running
pub mod Verdicts
pub mod Following
pub mod Misfits

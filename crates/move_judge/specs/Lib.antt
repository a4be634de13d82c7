pub mod Homes
pub mod Judged
pub mod Records
pub mod PartJudged
pub mod Over
pub mod Holders
pub mod Leaving

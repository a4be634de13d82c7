pub mod SmallMachine
pub mod Readiness

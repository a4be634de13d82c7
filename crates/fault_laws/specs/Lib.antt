pub mod Memory
pub mod Policies
pub mod Faults

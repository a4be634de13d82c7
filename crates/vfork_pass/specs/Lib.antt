pub mod Lenders
pub mod Passed

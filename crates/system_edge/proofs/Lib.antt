pub mod Fits
pub mod Seen
pub mod Placing
pub mod Learning
pub mod Numbers
pub mod Outputs
pub mod SwapRanges
pub mod CheckedPages

pub mod PartTexts
pub mod TraceLines
mod Readings
mod Missteps
mod Judged
mod Lookups
mod Askings
mod Endings
mod LineTexts

pub mod Cuts
mod LineNumbers
mod Lacking
mod ScheduleNumerals
mod ScheduleRefusals
mod Explained
mod ReferenceNumerals
pub mod ReferenceRefusals

pub mod Lines
pub mod Shown
pub mod FirstReason
pub mod Digits
pub mod ScheduleReasons
pub mod ScheduleExplaining
pub mod ReferenceReasons
pub mod ReferenceExplaining

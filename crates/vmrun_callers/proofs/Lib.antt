pub mod Finished
pub mod Files
pub mod Asking
pub mod Texts
pub mod Replays
pub mod First

-- That the invariant of the kernel is kept, by units that move pages and by changes of processes.
pub mod Pages
pub mod Borrowed
pub mod Changes
pub mod Units
pub mod Waiting
pub mod Starts
pub mod Begins
pub mod Paging

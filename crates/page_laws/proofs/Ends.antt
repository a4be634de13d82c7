-- That forcing a frame and serving a page end: a number falls with each unit.
pub mod Forcing
pub mod Hands
pub mod Serving
pub mod Wholes

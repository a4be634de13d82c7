-- Lemmas on lists of frames, pages and parts, with no step in sight.
pub mod Frames
pub mod Pages
pub mod Local
pub mod Parts
pub mod Runs

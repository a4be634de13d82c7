pub use Rattle.vm_core.proofs.Ending
pub mod Onward
mod Passing
pub mod Judgings
mod Notings
mod Besides
mod Told
mod Goes
mod Joining
pub mod Along
mod Staying
mod MovesJudged
mod Parting
mod Repeating
mod Widening
mod Looping
mod Telling
mod Tracing
mod Counting
mod Beginning
mod Verdicting
mod Opening

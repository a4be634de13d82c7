pub use Rattle.asm_grammar.proofs.Spelled
pub mod Places
pub mod Sizes
pub mod Assembling
pub mod Standing
pub mod Agreeing
pub mod Explaining
pub mod ByGrammar

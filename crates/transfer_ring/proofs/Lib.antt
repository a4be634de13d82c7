pub mod KeepLemmas
pub mod CountLemmas
pub mod PartLemmas
pub mod RunLemmas
pub mod TestLemmas

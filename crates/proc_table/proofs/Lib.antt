pub mod FindLemmas
pub mod SlotLemmas
pub mod KeyLemmas

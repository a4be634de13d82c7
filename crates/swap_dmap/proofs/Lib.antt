pub mod ChunkLaws
pub mod PieceLaws

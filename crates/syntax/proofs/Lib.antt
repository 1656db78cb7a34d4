-- tokens
pub mod LexLaws
pub mod Spelt
-- cells, and those of plan words and of trees
pub mod CellsLaws
pub mod WriterLaws
pub mod PlansLaws
pub mod TreeLaws

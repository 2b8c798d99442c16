pub mod BoundaryLemmas
pub mod GroupLemmas
pub mod LetterLemmas
pub mod LevelLemmas
pub mod PassLemmas
pub mod PieceLemmas
pub mod SiblingLemmas

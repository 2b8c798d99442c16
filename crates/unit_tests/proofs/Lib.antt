pub mod ProbeLemmas
pub mod PieceLemmas
pub mod TableLemmas

pub mod FindLemmas
pub mod GatherLemmas
pub mod MatchTableLemmas
pub mod RunLemmas
mod AlternativeLemmas

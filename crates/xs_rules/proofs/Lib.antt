pub mod HighestLemmas
mod HigherLemmas
pub mod RankLemmas
pub mod RuleLemmas
pub mod WhiteSpaceLemmas
mod AttributeLemmas
pub mod PlaceLemmas
pub mod SearchLemmas
pub mod KeyLemmas
mod ListLemmas
pub mod IndexLemmas
mod StripIndexLemmas
mod TableLemmas
pub mod TreeLemmas

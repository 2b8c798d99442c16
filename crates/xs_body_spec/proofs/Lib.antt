pub mod LackLemmas
pub mod SideLemmas
pub mod HoleLemmas
pub mod GrainLemmas
pub mod NeedLemmas
pub mod CapturedLemmas
pub mod IndexLemmas
pub mod FullLemmas
pub mod RankLemmas
mod ChainLemmas
mod LevelLemmas

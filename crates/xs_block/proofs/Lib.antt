pub mod BlockLemmas
pub mod ChainLemmas
pub mod CutLemmas

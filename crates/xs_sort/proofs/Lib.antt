pub mod GivenLemmas
mod KeyedNodeLemmas
pub mod UnsortedLemmas

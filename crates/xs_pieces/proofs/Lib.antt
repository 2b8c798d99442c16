pub mod TreeLemmas
pub mod CollectionLemmas

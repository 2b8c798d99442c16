-- A document that is not refused has the tree of one well-formed document.
pub mod ChainLemmas
pub mod ChainLineLemmas
pub mod DocumentLemmas
pub mod ElementLemmas
pub mod KeptElementLemmas
pub mod NewElementLemmas
pub mod OwnNodeLemmas
pub mod ScopeLemmas
pub mod TopLemmas

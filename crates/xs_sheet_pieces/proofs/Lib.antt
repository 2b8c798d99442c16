mod PieceLemmas
pub mod SyncLemmas

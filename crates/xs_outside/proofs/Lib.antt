pub mod FetchLemmas
pub mod FileLemmas
pub mod WriteLemmas

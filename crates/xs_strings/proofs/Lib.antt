pub mod OccurrenceLemmas
pub mod ReplacementLemmas
pub mod Utf8Lemmas
pub mod WindowLemmas
pub mod WordLemmas

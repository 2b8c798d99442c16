pub mod DigitLemmas
pub mod ReadBackLemmas
pub mod SpaceLemmas

pub mod BuiltLemmas
mod PlaceLemmas
mod TextLemmas

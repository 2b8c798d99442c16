mod SpaceLemmas
mod SpacingLemmas
mod CopyLemmas
mod LawLemmas
mod WalkLemmas
pub mod PutLemmas
mod WellLemmas
mod PlainLemmas

pub mod BlockLemmas
pub mod StoreLemmas
pub mod BriefLemmas
pub mod SectionLemmas
pub mod OutcomeLemmas
pub mod PieceLemmas
pub mod SegmentLemmas

pub mod StepLemmas
pub mod CaseLemmas
pub mod InsideLemmas
pub mod AxisListLemmas

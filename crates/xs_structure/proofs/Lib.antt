pub mod AroundLemmas
pub mod AttributeLemmas
pub mod DeclarationLemmas
pub mod InForceLemmas
pub mod NameLemmas
mod NamespaceLemmas
pub mod PassingLemmas
mod ScopeLemmas
pub mod StandingLemmas
pub mod TopLemmas

pub mod SiteLemmas
pub mod SearchLemmas
pub mod TickLemmas
pub mod LineLemmas
pub mod CountLemmas
pub mod PartLemmas
pub mod StartLemmas

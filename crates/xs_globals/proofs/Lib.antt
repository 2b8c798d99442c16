pub mod SettlingLemmas
pub mod SettledLemmas

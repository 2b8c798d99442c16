pub mod EscapeLemmas
pub mod FirstByteLemmas
pub mod NameLemmas
pub mod UnescapeLemmas
pub mod Utf8Lemmas
pub mod SyncLemmas

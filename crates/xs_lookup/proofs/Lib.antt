pub mod SyncLemmas

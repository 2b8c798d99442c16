-- What the code mirrors, which no public contract cites.
pub mod Compaction

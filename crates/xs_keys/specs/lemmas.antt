-- That the tables are what finding by key asks of them; an `impl` shows it, so it stands here and not in proofs.
pub mod TableLemmas
pub mod TextLemmas

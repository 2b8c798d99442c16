pub mod CommandLemmas
pub mod DigitLemmas
pub mod InputLemmas
pub mod OptionLemmas
pub mod RowLemmas
pub mod WithinLemmas

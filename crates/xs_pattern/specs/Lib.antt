-- What a table says, and what the code mirrors (what a pattern matches is in xs_pattern_spec).
pub mod Above
pub mod MatchTables
pub mod steps

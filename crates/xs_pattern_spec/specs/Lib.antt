-- In the order in which they are read: what expressions say in a pattern; which nodes match; priorities and ranks; which rule a node
-- takes; which numbers are counted.
pub mod Predicates
pub mod Matching
pub mod Ranks
pub mod Rules
pub mod Counted

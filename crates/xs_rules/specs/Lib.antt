-- In the order in which they are read: priorities and ranks; which rule a node takes; the index of the rules; which white space is
-- stripped. steps says what the code mirrors.
pub mod Ranks
pub mod Rules
pub mod Indexed
pub mod WhiteSpace
pub mod steps

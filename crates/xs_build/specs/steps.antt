-- What the code mirrors: the lines step by step, and the state in which the builder is. No public contract cites these files
-- but that of the law that the lines step by step represent what Document says.
pub mod Invariant
pub mod Known
pub mod Lines
pub mod NameSets
pub mod Names
pub mod Rest
pub mod State
pub mod Views

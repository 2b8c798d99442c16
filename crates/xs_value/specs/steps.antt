pub mod Held
pub mod Merging
pub mod Operands

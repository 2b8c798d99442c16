-- What the code mirrors.
pub mod Pairs

-- What the code mirrors.
pub mod Alike
pub mod Counters

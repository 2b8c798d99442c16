pub mod Positions
pub mod Searching
pub mod Normalization
pub mod Translation
pub mod Replacements

-- Numbers is what a reader has to believe, with Formats and Numerals; Passes says what a pass counts, steps what the code mirrors.
pub mod Numerals
pub mod Formats
pub mod Numbers
pub mod Counting
pub mod Examples
pub mod Passes
pub mod steps

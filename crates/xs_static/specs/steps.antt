-- What the code mirrors. No public contract cites these files.
pub mod Circles
pub mod Covering
pub mod Declared
pub mod Elements
pub mod First
pub mod Found
pub mod InForce
pub mod Least
pub mod Locals
pub mod Misplaced
pub mod Parsing
pub mod Ranks
pub mod Search
pub mod Shown
pub mod Uses
pub mod Walk
pub mod Whole

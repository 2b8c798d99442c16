-- What the code mirrors. No public contract cites these files.
pub mod Aliases
pub mod Counting
pub mod Gains
pub mod Locals
pub mod Output
pub mod Tags
pub mod Spaces
pub mod State
pub mod Tables
pub mod Trees

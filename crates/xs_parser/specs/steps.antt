-- What the code mirrors: the parts, the states and the loops of the reader. No public contract cites these files.
pub mod Cuttings
pub mod Parts
pub mod Scan
pub mod SoFar
pub mod States

pub mod Attributes
pub mod Contents
pub mod Forms
pub mod Nodes
pub mod Reading
pub mod Tags
pub mod Values
pub mod WhiteSpace

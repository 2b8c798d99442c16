-- What the code mirrors. No public contract cites these files.
pub mod Around
pub mod Namespaces
pub mod Order

-- What the code mirrors.
pub mod Front

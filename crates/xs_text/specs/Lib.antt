pub mod Escapes
pub mod Names
pub mod WhiteSpace
pub mod Text
pub mod Characters

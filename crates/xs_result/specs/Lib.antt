pub mod Building
pub mod Built
pub mod Places
pub mod Text
pub mod steps

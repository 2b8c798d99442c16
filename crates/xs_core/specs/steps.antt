pub mod Stepped
pub mod Parts
pub mod Table

pub mod Runs
pub mod Table
pub mod Parts
pub mod Search

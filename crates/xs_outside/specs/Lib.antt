pub mod Edge
pub mod Fetches
pub mod Memory
pub mod Reads

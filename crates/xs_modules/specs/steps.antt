pub mod Fetching
pub mod Joining
pub mod Reader
pub mod Views

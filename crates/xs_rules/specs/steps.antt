pub mod Candidates
pub mod Index
pub mod Kinds
pub mod Lists
pub mod Strips

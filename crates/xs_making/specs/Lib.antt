pub mod Texts
pub mod Labels
pub mod Names
pub mod Results
pub mod Copies
pub mod Putting
pub mod Laws
pub mod steps

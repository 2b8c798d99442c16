pub mod Bindings
pub mod Keeping
pub mod Kept
pub mod Lines
pub mod Laws
pub mod Settled
pub mod Stream
pub mod steps

pub mod Bound
pub mod InForce
pub mod Tables
pub mod Open
pub mod Ordered
pub mod Tags
pub mod Unfolding
pub mod Pending

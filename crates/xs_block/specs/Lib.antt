pub mod Chain
pub mod steps

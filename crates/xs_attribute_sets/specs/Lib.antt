pub mod Declarations
pub mod Indexed
pub mod steps

pub mod Circles
pub mod Declarations
pub mod Expressions
pub mod Faults
pub mod Names
pub mod Placing
pub mod Sets
pub mod steps

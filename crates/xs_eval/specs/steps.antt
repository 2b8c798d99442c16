pub mod Keys
pub mod Languages
pub mod Names
pub mod Variables
pub mod Positions
pub mod Unions
pub mod Operands

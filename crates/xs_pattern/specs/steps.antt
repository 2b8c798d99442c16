-- What the code mirrors.
pub mod Climb
pub mod Alone
pub mod PathTables
pub mod Keys

pub mod Choice
pub mod Command
pub mod Inputs
pub mod Numbers
pub mod Options
pub mod Results
pub mod Rows
pub mod Steps

pub mod Range
pub mod Number
pub mod Quotients
pub mod Text

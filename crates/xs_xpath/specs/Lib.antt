-- What a reader has to believe stands in Tree, Quotients, Names and Digits; of patterns in Patterns, of value templates in Templates and
-- AvtParts, of variables in Binding and Uses; Exprs says which tree an expression of the code is. steps says what the code mirrors.
pub mod AvtParts
pub mod Binding
pub mod Digits
pub mod Exprs
pub mod Names
pub mod Patterns
pub mod Quotients
pub mod Rows
pub mod Templates
pub mod Tree
pub mod Uses
pub mod steps

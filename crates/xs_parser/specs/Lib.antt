-- What a reader has to believe stands in Grammar, Spelling, Tokens, Axes, Names, Faults and Outcome; of value templates in Templates.
-- Reading and Lexing are the grammar as functions, which Laws ties to its rules, as TemplateLaws does the functions of Templates.
-- steps says what the code mirrors.
pub mod Axes
pub mod Faults
pub mod Grammar
pub mod Laws
pub mod Lexing
pub mod Names
pub mod Outcome
pub mod Reading
pub mod Spelling
pub mod Templates
pub mod TemplateLaws
pub mod Tokens
pub mod steps

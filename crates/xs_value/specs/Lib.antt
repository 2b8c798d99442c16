-- What a reader has to believe stands in NodeSet, Conversion, Comparison, Results, Tables and Keys. steps says what the code
-- mirrors.
pub mod Comparison
pub mod Conversion
pub mod Keys
pub mod NodeSet
pub mod Results
pub mod Tables
pub mod TextIndexes
pub mod steps

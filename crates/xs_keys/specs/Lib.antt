-- Keys and KeyTables are what a reader has to believe; steps says what the code mirrors, lemmas that the tables are in order.
pub mod Keys
pub mod KeyTables
pub mod Laws
pub mod Find
pub mod lemmas
pub mod steps

-- Sorting is what a reader has to believe; Given says what the code gives at an instruction.
pub mod Given
pub mod Sorting
pub mod Laws

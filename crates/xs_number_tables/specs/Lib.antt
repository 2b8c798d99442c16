-- Counted is what a reader has to believe; steps says what the code mirrors.
pub mod steps
pub mod Tables

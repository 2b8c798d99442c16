mod FrontLemmas
pub mod InOrderLemmas
pub mod OrderLemmas
mod ShiftLemmas

pub mod BindLemmas
pub mod QuotientLemmas
mod RisingLemmas
mod RowLemmas
pub mod RunLemmas

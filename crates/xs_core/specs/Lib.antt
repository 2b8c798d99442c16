pub mod Machine
pub mod Good
pub mod Laws
pub mod Facts
pub mod Answer
pub mod steps

pub mod Codes
pub mod formers
pub mod Laws
pub mod Sets
pub mod Slots
pub mod Sound
pub mod Standing

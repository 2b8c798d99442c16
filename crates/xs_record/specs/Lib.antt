pub mod Store
pub mod Segment
pub mod Paying
pub mod Outcome
pub mod Piece

-- In the order in which they are read: trees of pieces; what a runner owes; collections; their reading as states; laws.
pub mod Tree
pub mod Ready
pub mod Collection
pub mod Laws

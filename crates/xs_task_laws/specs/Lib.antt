-- Tasks with their places, and the tree that they make; laws of it.
pub mod Placed
pub mod Laws

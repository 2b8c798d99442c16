-- In the order in which they are read: what a transformation is evaluated over; runs that are left to tasks; rules; what is put into the
-- result; what it does; attempts at globals. Inside says what has to be in the tree.
pub mod World
pub mod Numbers
pub mod Tasks
pub mod Rules
pub mod Making
pub mod Trace
pub mod Ranks
pub mod Globals
pub mod Laws
pub mod Inside

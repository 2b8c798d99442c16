-- In the order in which they are read: the context; how results become runs; operators; names and keys; functions; paths; and the
-- cases on the expression.
pub mod Context
pub mod Conditions
pub mod Nodes
pub mod Results
pub mod Operators
pub mod Names
pub mod Languages
pub mod Functions
pub mod Keys
pub mod Calls
pub mod Paths
pub mod Evaluation
pub mod Templates

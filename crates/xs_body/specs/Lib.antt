-- What is in the tree; what whole runs and attempts at globals answer; laws. steps says what the code mirrors.
pub mod Inside
pub mod Results
pub mod steps
pub mod Laws

pub mod Results
pub mod steps

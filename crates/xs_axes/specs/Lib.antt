pub mod AxisLaws
pub mod Walks

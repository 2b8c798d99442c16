-- Keys and InOrder are what a reader has to believe; steps says what the code mirrors.
pub mod Keys
pub mod InOrder
pub mod Laws
pub mod KeyedNodes
pub mod Filled
pub mod steps

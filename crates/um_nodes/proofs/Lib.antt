pub mod KeyOrder
pub mod FirstPlace

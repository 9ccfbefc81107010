pub mod Pairs
pub mod Behind
pub mod Bounds
pub mod Reading
pub mod Laws
pub mod Examples

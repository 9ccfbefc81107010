pub mod Sites
pub mod Nodes
pub mod Laws
pub mod Handing
pub mod Descents

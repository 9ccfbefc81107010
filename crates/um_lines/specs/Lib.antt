pub mod Lines
pub mod Combined
pub mod Turns
pub mod Nums

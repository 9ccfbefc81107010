pub mod Numerals
pub mod Sayable
pub mod Laws
pub mod Examples

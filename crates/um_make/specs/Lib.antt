pub mod Numerals
pub mod NormalLines
pub mod Printed
pub mod Places

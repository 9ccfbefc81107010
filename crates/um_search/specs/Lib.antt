pub mod Conditions
pub mod Endings
pub mod Told

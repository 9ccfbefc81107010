pub mod Checkables
pub mod Goings
pub mod Steps

pub mod Ways
pub mod Keeping
pub mod Covering
pub mod Handed
pub mod Steps

pub mod Begun
pub mod NumberEnds

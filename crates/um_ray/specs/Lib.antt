pub mod Directions
pub mod Laws
pub mod Rays
pub mod Starts

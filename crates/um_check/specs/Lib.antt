pub mod Bounds
pub mod Judging
pub mod RayParts
pub mod Turns
pub mod Walks

pub mod Boxed
pub mod Laws
pub mod Readings
pub mod Relaxed
pub mod WholeMultiples

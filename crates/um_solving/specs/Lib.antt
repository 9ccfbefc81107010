pub mod Endings
pub mod Laws
pub mod RootBoxes
pub mod Solvings

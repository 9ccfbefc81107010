pub mod Turns
pub mod Histories
pub mod NextTurns
pub mod NeededTurns
pub mod UnnumberedNodes
pub mod ShownRays
pub mod Laws

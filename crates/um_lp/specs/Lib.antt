pub mod Basis
pub mod Boards
pub mod DualSteps
pub mod Laws
pub mod Refusals
pub mod Relaxations
pub mod States
pub mod WideStates

pub mod LeafSteps
pub mod LeastBounds
pub mod NodeSteps
pub mod Objectives
pub mod RaySums
pub mod Tolerances
pub mod TurnSteps
pub mod Verdicts

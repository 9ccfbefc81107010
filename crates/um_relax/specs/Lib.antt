pub mod KeyRows
pub mod KeyTests
pub mod Limits
pub mod Parts
pub mod Reboxings
pub mod Refusals
pub mod Relaxations
pub mod Runs

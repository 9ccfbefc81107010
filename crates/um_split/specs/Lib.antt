pub mod Branchings
pub mod Intervals
pub mod LastReached
pub mod Laws
pub mod SemiLows
pub mod Stretches

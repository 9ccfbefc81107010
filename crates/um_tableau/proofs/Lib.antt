pub mod RowSteps
pub mod ValueSteps
pub mod Taken
pub mod FrameLemmas
pub mod Exchanges
pub mod Ends
pub mod BoardActs
pub mod Coefficients
pub mod Starting
mod NewLines
mod Rises
pub mod RefusedActs
pub mod FirstBasis
mod NarrowLines
pub mod Copies
pub mod BoardResets
pub mod KeptBoards

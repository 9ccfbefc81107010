pub mod NormalForm
pub mod PlainMultipliers
pub mod Sizes

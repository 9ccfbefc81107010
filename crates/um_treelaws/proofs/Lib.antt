mod WrittenLines
mod WrittenNumbers
mod WrittenFront
mod WrittenValues
mod WrittenNodes
pub mod WrittenText
mod ReadSteps
mod ReadDigits
mod ReadNumbers
mod ReadFractions
mod ReadLines
mod ReadFront
mod ReadCauses
mod ReadValues
mod ReadPrices
mod ReadNodes
pub mod ReadText

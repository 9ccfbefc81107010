pub mod Written
mod LineCuts
mod TextCuts
mod Takes
mod NumberWords
mod LineSteps
mod CountedNumbers
mod MemoryFaults
mod PriceWords
mod WantOfMemory
mod NoMemory
mod OneReading
mod ReadCheckable
mod FaultSteps
mod NodeSteps
mod ReadSteps

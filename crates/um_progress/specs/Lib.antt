pub mod Incumbents
pub mod Waits
pub mod Numbers
pub mod Searches
pub mod Stops
pub mod Ends
pub mod Lineage
pub mod Laws

pub mod Lists
pub mod Orders
pub mod Starts
pub mod Writes
pub mod Telling

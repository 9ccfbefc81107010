pub mod Calls
pub mod CheckCalls
pub mod FileReads
pub mod Sayings
pub mod Reportable
pub mod SolveCalls
pub mod PrintCalls

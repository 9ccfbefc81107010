pub mod NamedLists
pub mod Makers

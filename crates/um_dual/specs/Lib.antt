pub mod Choices
pub mod Laws
pub mod Methods
pub mod Used

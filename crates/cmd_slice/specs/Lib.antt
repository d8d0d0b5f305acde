pub mod Names
pub mod Slicing
pub mod Laws
pub mod Offered

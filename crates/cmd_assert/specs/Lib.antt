pub mod Texts
pub mod Asserts
pub mod Laws
pub mod Offered

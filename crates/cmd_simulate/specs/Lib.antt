pub mod Simulates
pub mod Tells
pub mod Laws
pub mod Offered

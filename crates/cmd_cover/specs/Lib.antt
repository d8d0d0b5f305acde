pub mod Text
pub mod Covers
pub mod Tells
pub mod Laws
pub mod Offered

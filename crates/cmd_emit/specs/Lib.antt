pub mod Emits
pub mod Laws
pub mod Offered

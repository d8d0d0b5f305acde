pub mod Texts
pub mod Derives
pub mod Laws
pub mod Offered

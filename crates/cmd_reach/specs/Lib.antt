pub mod Texts
pub mod Reaches
pub mod Laws
pub mod Offered

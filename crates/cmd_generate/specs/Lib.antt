pub mod Chain
pub mod Words
pub mod Offered

pub mod Checks
pub mod Offered

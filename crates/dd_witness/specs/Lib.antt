pub mod Least
pub mod Descent

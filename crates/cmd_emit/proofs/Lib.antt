pub mod Emitting
pub mod Offering

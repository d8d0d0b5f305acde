pub mod Lines
pub mod Offering

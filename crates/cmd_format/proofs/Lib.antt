pub mod Formatting
pub mod Offering

pub mod Naming
pub mod Files
pub mod Offering
pub mod Ranges

pub mod Files
pub mod Lines
pub mod States
pub mod Offering

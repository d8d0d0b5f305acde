pub mod Verdicts
pub mod Files
pub mod Lines
pub mod Offering

pub mod Counting
pub mod Lines
pub mod Parts
pub mod Once
pub mod Offering

pub mod Existence
pub mod Once
pub mod Steps
pub mod Run
pub mod Front
pub mod Files
pub mod Offering

pub mod Once
pub mod Steps
pub mod Existence
pub mod Run
pub mod Front
pub mod Files
pub mod Same
pub mod Offering

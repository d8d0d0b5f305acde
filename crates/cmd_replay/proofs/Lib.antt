pub mod Once
pub mod Steps
pub mod Existence
pub mod Held
pub mod Refused
pub mod Files
pub mod Offering

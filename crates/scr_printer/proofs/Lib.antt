pub mod Written
pub mod Phrases
pub mod Targets

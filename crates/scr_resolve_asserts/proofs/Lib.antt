mod PrimeLaws
mod Steps
pub mod Outcome
pub mod Readings

pub mod Levels
pub mod Counts
pub mod Least
pub mod Readings
pub mod InTurn
pub mod Decisions
pub mod Alone
pub mod Pairs

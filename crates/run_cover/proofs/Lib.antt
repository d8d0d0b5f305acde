pub mod Tallied
pub mod Listed
pub mod There
pub mod Raising
pub mod Counting

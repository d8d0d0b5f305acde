pub mod Commands
pub mod Holds

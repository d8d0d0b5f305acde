pub mod Names
pub mod First
pub mod Meanings
pub mod Declarations
pub mod Entries
pub mod Sides
pub mod Conditions
pub mod Events

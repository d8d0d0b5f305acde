pub mod Listing
pub mod Exits
pub mod Entries
pub mod Gathered
pub mod Over
pub mod SomeList
pub mod Once

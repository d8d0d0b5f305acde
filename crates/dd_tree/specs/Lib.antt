pub mod Tree
pub mod Ordered
pub mod Function
pub mod Added
pub mod Canonical

pub mod Slices
pub mod Breaks
pub mod Orders
pub mod Dropped
pub mod Joins
pub mod Pieces
pub mod Laws

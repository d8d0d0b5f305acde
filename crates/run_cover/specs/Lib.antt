pub mod Cells
pub mod Counts
pub mod Tallies
pub mod Laws

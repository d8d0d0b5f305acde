pub mod Mentions
pub mod Renumbered
pub mod Slices
pub mod Laws
pub mod Marks

pub mod Forms
pub mod Narrow
pub mod Inputs
pub mod Reached
pub mod Whole
pub mod Front

pub mod BackForms
pub mod Lists
pub mod Cuts
pub mod Plain
pub mod Once
pub mod Lines
pub mod Moves

pub mod Lines
pub mod Texts
pub mod Runs
pub mod Tells
pub mod Firsts
pub mod Laws
pub mod Offered

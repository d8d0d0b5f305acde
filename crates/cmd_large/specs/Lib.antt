pub mod Texts
pub mod Script
pub mod Summaries
pub mod Laws
pub mod Offered

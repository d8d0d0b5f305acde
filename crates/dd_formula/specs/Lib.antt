pub mod Domains
pub mod Truth
pub mod Joined
pub mod Measure

pub mod Lists
pub mod Derived
pub mod Offering

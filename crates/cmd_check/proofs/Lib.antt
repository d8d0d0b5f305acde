pub mod Checked
pub mod Offering

pub mod Faults
pub mod Variables
pub mod Reports
pub mod Runs

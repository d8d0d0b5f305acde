pub mod Spelling
pub mod Reports
pub mod Checking
pub mod Tells
pub mod Laws
pub mod Words
pub mod Offered

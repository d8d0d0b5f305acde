pub mod CallForms
pub mod TextLaws
pub mod Once
pub mod Existence
pub mod Steps
pub mod Told
pub mod Files
pub mod Offering

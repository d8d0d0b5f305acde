pub mod Spelling
pub mod Pages
pub mod Names
pub mod Sides
pub mod Conds
pub mod Events
pub mod Declarations
pub mod Text

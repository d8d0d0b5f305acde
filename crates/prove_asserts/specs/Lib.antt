pub mod Claims
pub mod Formulas
pub mod Judged
pub mod Derived
pub mod Settings
pub mod Laws

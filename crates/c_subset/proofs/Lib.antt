pub mod Functions
pub mod PlainLaw

pub mod Bytes
pub mod Decimals
pub mod Lines
pub mod Ends
pub mod Relations
pub mod Limits

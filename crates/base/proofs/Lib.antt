pub mod Decimals
pub mod FirstLine
pub mod InTurn
pub mod Sizes

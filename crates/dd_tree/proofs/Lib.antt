pub mod Equal
pub mod Cofactor
pub mod Canon
pub mod Join
pub mod Function
pub mod Free
pub mod Combine
pub mod Added

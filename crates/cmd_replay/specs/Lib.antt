pub mod Turns
pub mod Replays
pub mod Tells
pub mod Laws
pub mod Offered

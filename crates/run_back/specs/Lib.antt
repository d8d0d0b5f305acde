pub mod Faults
pub mod StepBack
pub mod Kept
pub mod Room
pub mod Replays
pub mod Holds
pub mod Laws

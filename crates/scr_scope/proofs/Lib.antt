mod Found
pub mod Kept
pub mod KeptTypes
pub mod KeptForms
pub mod KeptDepth
pub mod There
pub mod ThereAfter
pub mod ThereIn
pub mod KeptOver
pub mod KeptValues
pub mod KeptCells
mod CondLaws
mod EntrySteps
mod Products

pub mod Lists
pub mod Totals
pub mod FormulaLaws
pub mod JoinTruth

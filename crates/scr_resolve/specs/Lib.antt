pub mod Tables
pub mod Built
pub mod Grouped
pub mod Lines
pub mod Draft
pub mod Texts

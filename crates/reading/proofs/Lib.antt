pub mod Layouts
pub mod Rows
pub mod Tallies
pub mod Verdicts
pub mod Whole

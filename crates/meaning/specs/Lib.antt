pub mod Meaning
pub mod Figure
pub mod Code
pub mod Nesting
pub mod Claims
pub mod Example
pub mod Passes

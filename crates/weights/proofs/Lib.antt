pub mod Rows
pub mod Held
pub mod Adding
pub mod Agree
pub mod Weighing
pub mod Longest

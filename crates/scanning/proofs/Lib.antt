pub mod Bytes
pub mod Existence
pub mod Reading
pub mod Steps
pub mod Turns
pub mod Verdicts
pub mod Whole

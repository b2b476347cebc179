pub mod Example
pub mod Steps
pub mod Sweeps
pub mod Turns
pub mod Panels
pub mod Lawful
pub mod Lists

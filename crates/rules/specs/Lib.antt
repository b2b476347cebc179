pub mod Findings
pub mod Labels
pub mod Levels
pub mod Bytes
pub mod Laws
pub mod Tables
pub mod Walk

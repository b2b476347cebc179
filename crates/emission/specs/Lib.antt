pub mod Emission
pub mod Claims

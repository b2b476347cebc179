pub mod Ahead
pub mod Weights
pub mod Claims
pub mod Chains

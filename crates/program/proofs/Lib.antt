pub mod Bits
pub mod Soundness
pub mod Steps

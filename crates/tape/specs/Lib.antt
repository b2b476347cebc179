pub mod Format
pub mod Faults
pub mod Fields
pub mod Says
pub mod Verdict
pub mod Writing
pub mod Tape

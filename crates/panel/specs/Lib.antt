pub mod Meaning
pub mod Faults
pub mod Answers
pub mod Sweeps
pub mod Bench

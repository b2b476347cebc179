pub mod Grammar
pub mod Limits
pub mod Depth
pub mod Faults
pub mod Verdict
pub mod Machine
pub mod Parsing

pub mod Order
pub mod Rules
pub mod Faults
pub mod Verdict
pub mod Records
pub mod Judging
pub mod Passes

pub mod Faults
pub mod Items
pub mod Tally
pub mod Verdict
pub mod Layout

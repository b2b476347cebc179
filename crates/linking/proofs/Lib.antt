pub mod Empty
pub mod Placing
pub mod Levels
pub mod Verdicts
pub mod Joining
pub mod Passing

pub mod Fragments
pub mod Sound
pub mod Settled
pub mod Bound
pub mod Shallow
pub mod Example
pub mod Progress

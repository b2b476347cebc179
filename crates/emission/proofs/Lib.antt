pub mod Turns
pub mod Fills
pub mod Trees
pub mod Soundness
pub mod Known

pub mod Cells
pub mod Machine
pub mod Sound
pub mod View

mod Columns
mod Values
mod Lines
mod Pieces
mod Tapes
mod Plays
mod Written
mod Calls
pub mod Digits

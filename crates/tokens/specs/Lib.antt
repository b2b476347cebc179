pub mod Numbers
pub mod Cells
pub mod Tokens
pub mod Listed
pub mod Names

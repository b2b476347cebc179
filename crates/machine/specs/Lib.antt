pub mod Plan
pub mod Machine
pub mod Histories
pub mod Laws
pub mod Claims
pub mod Lists
pub mod Example

pub mod Seen
pub mod Searches
pub mod Places
pub mod Walks
pub mod Passes
pub mod Overlaps
pub mod Unique

pub mod Lines
pub mod Search
pub mod Files

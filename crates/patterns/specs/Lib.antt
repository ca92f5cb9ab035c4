pub mod Bound
pub mod Finding
pub mod Matching

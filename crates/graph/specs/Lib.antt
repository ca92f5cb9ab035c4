pub mod Ways
pub mod Walked

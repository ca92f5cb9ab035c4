pub mod Lines
pub mod Judged
pub mod Counts

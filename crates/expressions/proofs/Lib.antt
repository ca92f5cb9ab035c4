pub mod Numbers
pub mod Operated
pub mod Rows
pub mod Ways

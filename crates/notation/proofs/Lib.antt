pub mod Steps
pub mod Rows
pub mod Verdicts
pub mod Noted

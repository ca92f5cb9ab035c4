pub mod Clearing
pub mod Filling
pub mod Judging

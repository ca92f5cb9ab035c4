pub mod Checking
pub mod Kept
pub mod Starting
pub mod Stepped

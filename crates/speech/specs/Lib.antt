pub mod Both
pub mod Filled
pub mod Case
pub mod Verdict

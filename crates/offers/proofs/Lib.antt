pub mod Accepted
pub mod Offering

pub mod Codes
pub mod Fields
pub mod Counting
pub mod Stages

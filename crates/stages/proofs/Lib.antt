pub mod Order
pub mod Stages
pub mod Cleared

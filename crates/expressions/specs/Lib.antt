pub mod Operators
pub mod Ready

pub mod Table
pub mod Codes
pub mod Rows
pub mod Types
pub mod Lists
pub mod Rules
pub mod Verdict
pub mod Operators

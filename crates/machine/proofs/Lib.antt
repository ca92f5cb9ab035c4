pub mod Parts
pub mod Ways
pub mod Helpers
pub mod Loops
pub mod Arms
pub mod Words

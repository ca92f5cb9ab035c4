pub mod Arms
pub mod Cases
pub mod Given
pub mod Judged
pub mod Rows
pub mod Tried
pub mod Walks

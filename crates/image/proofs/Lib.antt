pub mod Laid
pub mod Accepted

pub mod Listed
pub mod Assigning
pub mod Resetting
pub mod Reading
pub mod Drawing
pub mod Storing
pub mod Done

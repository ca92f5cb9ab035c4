pub mod Slots
pub mod Trying
pub mod Steps
pub mod Moved

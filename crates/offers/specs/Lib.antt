pub mod Accepting
pub mod Asks

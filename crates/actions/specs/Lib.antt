pub mod Doing
pub mod Items
pub mod State
pub mod Words

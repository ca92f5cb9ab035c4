pub mod Readings
pub mod NextItem
pub mod Vectors
pub mod OfferLists
pub mod RowRules
pub mod Lowest

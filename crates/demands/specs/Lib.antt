pub mod Common
pub mod Judgements
pub mod Halts
pub mod Figures
pub mod Statements
pub mod Stores
pub mod Refusals

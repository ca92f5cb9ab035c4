pub mod Put
pub mod Decimal
pub mod Halving
pub mod Pages
pub mod Writing

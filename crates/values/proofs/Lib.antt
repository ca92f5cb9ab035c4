pub mod Wrapping
pub mod Sizes
pub mod Held
pub mod Computed

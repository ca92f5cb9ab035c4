pub mod Acts
pub mod Late

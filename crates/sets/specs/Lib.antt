pub mod Flow
pub mod States

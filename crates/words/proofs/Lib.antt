pub mod Words
pub mod Written

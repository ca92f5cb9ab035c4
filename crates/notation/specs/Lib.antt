pub mod Lines
pub mod Table
pub mod Texts
pub mod Whole
pub mod Inside

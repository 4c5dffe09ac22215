pub mod Lines
pub mod Along
pub mod OfLines
pub mod Joins

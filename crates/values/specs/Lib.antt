pub mod Nearest
pub mod Values

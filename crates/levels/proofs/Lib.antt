pub mod Along
pub mod Divided

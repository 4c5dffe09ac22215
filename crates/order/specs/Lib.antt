pub mod Orders
pub mod Packed

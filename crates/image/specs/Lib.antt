pub mod Rows
pub mod Images
pub mod Refusals
pub mod Stores

pub mod Requests
pub mod Crossing

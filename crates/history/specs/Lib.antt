pub mod Calls
pub mod Past
pub mod Promise

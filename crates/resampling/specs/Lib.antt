pub mod Runs
pub mod Running
pub mod Seen

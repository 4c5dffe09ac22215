pub mod Ratio
pub mod Growth
pub mod Sized
pub mod Largest
pub mod Links
pub mod Answered
pub mod Unknown

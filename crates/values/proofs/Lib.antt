pub mod Within
pub mod Shapes
pub mod Plans
pub mod Copies

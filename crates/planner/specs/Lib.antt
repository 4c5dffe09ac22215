pub mod Stages
pub mod Chains
pub mod Plans
pub mod Plan
pub mod Strategies
pub mod Left
pub mod Lines

pub mod Bounds
pub mod Pairs

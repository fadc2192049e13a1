pub mod Ranges
pub mod Descriptors
pub mod Kept

pub mod Digits
pub mod Filled

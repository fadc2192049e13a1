pub mod Shapes
pub mod Writes
pub mod Digits
pub mod Texts
pub mod Seeing

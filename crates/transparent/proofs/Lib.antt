pub mod Choices
pub mod Choosing

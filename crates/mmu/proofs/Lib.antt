pub mod ByValue
pub mod Singles
pub mod Refusing

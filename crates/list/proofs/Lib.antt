pub mod Pairs
pub mod Looking
pub mod Levels
pub mod Output
pub mod Entering
pub mod Refusing

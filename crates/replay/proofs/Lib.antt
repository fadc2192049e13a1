pub mod Calling
pub mod Stepping
pub mod Running

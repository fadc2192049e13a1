pub mod Steps
pub mod Driving
pub mod Saying

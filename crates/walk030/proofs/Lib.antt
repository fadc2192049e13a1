pub mod Aiming
pub mod Driving
pub mod Limit

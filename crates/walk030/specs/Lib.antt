pub mod Walked
pub mod Machine

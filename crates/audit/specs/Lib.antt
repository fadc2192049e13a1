pub mod Ways
pub mod Machine
pub mod Told

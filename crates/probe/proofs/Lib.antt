pub mod Probing

pub mod Arrays
pub mod InPlace
pub mod AtHost
pub mod Replayed
pub mod Listed

pub mod AtHost
pub mod ByValue

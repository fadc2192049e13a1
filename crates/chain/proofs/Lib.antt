pub mod Runs
pub mod Watched

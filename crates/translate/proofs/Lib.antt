pub mod Staged
pub mod Planning
pub mod Concluding
pub mod Translating

pub mod Stages
pub mod InPlace

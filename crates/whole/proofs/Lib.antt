pub mod Showing
pub mod Independent

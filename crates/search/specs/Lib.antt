pub mod Searched

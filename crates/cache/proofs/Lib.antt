pub mod Lists
pub mod Flags
pub mod Entries
pub mod Victim
pub mod Parts
pub mod Laws030
pub mod Slots
pub mod Pairs

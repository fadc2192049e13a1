pub mod Packed
pub mod Atc030
pub mod Atc040
pub mod Pair

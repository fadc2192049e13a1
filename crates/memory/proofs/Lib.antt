pub mod Tests
pub mod Widths
pub mod Shown
pub mod Shifts
pub mod Touching
pub mod Searching

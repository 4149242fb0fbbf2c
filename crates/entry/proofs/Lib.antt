pub mod Agreement
pub mod Checks
pub mod First
pub mod Ranges
pub mod Threes

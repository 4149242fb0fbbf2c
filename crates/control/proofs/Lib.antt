pub mod Bounds
pub mod States

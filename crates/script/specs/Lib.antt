pub mod Words
pub mod Orders
pub mod Scripts
pub mod Refusals

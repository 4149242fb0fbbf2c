pub mod Speeds
pub mod Laws

pub mod Circles
pub mod Laws

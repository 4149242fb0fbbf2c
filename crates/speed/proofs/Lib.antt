pub mod Stopping
pub mod Fastest
pub mod Race

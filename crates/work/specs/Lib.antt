pub mod Works
pub mod Ranges
pub mod Promises
pub mod Worked

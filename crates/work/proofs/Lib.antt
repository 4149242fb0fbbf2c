pub mod Lists
pub mod Ticks
pub mod Safety
pub mod Rest
pub mod Arrival
pub mod Fewest
pub mod Promise

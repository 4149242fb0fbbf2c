pub mod Motors

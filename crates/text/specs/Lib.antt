pub mod Nodes
pub mod Reading
pub mod Taking
pub mod Tokens
pub mod Words

pub mod Rebuilding
pub mod Texts
pub mod Trees

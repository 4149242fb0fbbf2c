mod Roots
mod Near
mod Rows
mod Steps
mod Symmetry
mod Corners
mod Round
mod Indices
pub mod Walks

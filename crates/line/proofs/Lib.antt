mod Parts
mod Shares
mod Frames
pub mod Walk

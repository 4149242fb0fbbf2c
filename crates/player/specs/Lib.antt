pub mod Plays

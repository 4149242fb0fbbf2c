mod Firsts
mod Scans
mod Turns

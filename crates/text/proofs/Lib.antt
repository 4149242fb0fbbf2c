mod Bytes
mod Scans
mod Taken

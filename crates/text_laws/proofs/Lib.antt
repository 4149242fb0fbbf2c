mod Alone
mod Built
mod Rebuilt
mod Spelled

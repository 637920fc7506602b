mod Register
mod Writes

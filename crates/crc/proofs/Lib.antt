pub mod Number
pub mod Bytes
pub mod Linear
mod Wide
mod Append
mod Powers
mod Folding

pub mod Stages
pub mod KeyBytes
pub mod Recurrence
pub mod Laws
pub mod Steps
mod Square
mod Places
mod Follows
mod Holds
mod Words

pub mod Joining
pub mod Growing

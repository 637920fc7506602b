pub mod Answers
pub mod States
pub mod Headers
pub mod Messages

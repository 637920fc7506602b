pub mod Walk
pub mod Parsed
pub mod Used
pub mod Round
pub mod Exactly
pub mod Counting

pub mod Ending
pub mod Input

pub mod Scrambler
pub mod Keys

pub mod Beam
pub mod Blocks

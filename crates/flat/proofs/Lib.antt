pub mod Packets
pub mod StatesFit
pub mod HeadersFit
pub mod Exact
pub mod Back

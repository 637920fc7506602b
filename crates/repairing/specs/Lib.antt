pub mod Body
pub mod Repairing
pub mod NearPart
pub mod Words

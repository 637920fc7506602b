pub mod Laws
pub mod NearFrame
pub mod Built
pub mod Accepted
pub mod Theorems

pub mod Theorems
pub mod Calls
pub mod Sent
pub mod Received
pub mod Bits

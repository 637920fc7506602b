pub mod Factors
pub mod Laws
pub mod Registers
pub mod Roots
pub mod Places
pub mod Distance
pub mod Interleaved
pub mod Spread
pub mod Remainders
mod Rows

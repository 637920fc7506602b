pub mod Register
pub mod Linear
pub mod Identity
pub mod Doubling
pub mod Basis

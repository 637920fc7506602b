pub mod Double
pub mod Laws
pub mod Raised
pub mod Powers
pub mod EachByte
mod Tops

pub mod Field
pub mod EachByte
pub mod Raised

pub mod Marks
pub mod Records
pub mod Packed
pub mod Allowed
pub mod Filling
pub mod Bench
pub mod Examples

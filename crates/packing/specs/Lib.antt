pub mod Rules
pub mod Filling
pub mod Found
pub mod Records

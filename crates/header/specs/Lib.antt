pub mod Calls
pub mod Header

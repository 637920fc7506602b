pub mod Left
pub mod AreaBytes
pub mod Ring
pub mod Sending
pub mod Carried

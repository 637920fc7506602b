pub mod FastChannel
pub mod Level

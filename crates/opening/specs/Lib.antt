pub mod Opening
pub mod NearFrame

pub mod Pieces
pub mod Reached
pub mod Laws
pub mod First
pub mod Grown

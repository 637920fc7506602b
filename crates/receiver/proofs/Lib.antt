pub mod Tables
pub mod Applying
pub mod Laws
pub mod Machine

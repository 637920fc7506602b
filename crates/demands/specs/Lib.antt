pub mod Demand1
pub mod CallsForC
pub mod Demand2
pub mod Demand3
pub mod Cases

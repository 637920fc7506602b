pub mod Link
pub mod Ledger
pub mod Demand3
pub mod Store
pub mod Parsing

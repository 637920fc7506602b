pub mod Nearness
pub mod Nearest
mod First
mod PlaceLists
mod Polynomial
mod Rows
mod Rising
mod Locator
mod Count
mod ErrorLaws
mod SumLaws
mod Complete
mod Check
mod ByWord
mod Arrays
mod SumTurns
mod LocatingTurns
mod PlaceTurns
mod ErrorTurns

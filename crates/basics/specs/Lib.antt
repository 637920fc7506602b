pub mod Lists
pub mod Numbers
pub mod Sizes
pub mod Counts

pub mod Xor
pub mod Tests
pub mod Lists
pub mod Fill
pub mod Numbers
pub mod Iterators

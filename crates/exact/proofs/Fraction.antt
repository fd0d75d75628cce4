-- The laws of exact fractions, a file a notion. Assumes nothing.
pub mod Order
pub mod Sum
pub mod Product
pub mod Quotient
pub mod Parts
pub mod Readers
pub mod Units
pub mod Least

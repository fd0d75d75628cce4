-- The rules that the contracts cite. Assumes nothing.
pub mod Exponential
pub mod Terms
pub mod Logarithm
pub mod Powers
pub mod Pair
pub mod Level

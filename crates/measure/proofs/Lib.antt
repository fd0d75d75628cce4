-- The laws of the measures. Assumes nothing.
pub mod Lift
pub mod Measure
pub mod Sizes

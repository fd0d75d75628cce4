-- Measures of size and fineness. Assumes nothing.
pub mod Measure

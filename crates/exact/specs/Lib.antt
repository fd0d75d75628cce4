pub mod Fraction
pub mod Ends
pub mod Series

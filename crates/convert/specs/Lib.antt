-- The definitions that the contracts of `convert` cite. Assumes nothing.
pub mod Form
pub mod Converts
pub mod Values

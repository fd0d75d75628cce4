-- The definitions that the contracts of `panel` cite. Assumes nothing.
pub mod Chosen
pub mod Typed
pub mod Converted
pub mod Lent

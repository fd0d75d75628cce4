-- The definitions that the contracts of `reading` cite. Assumes nothing.
pub mod Values

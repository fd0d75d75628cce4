-- The definitions that the contracts of `text` cite. Assumes nothing.
pub mod Table
pub mod Reads
pub mod Writes
pub mod Values

-- The definitions that the contracts of `bench` cite. Assumes nothing.
pub mod Lines

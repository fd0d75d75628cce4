-- The definitions that the contracts of `lent` cite. Assumes nothing.
pub mod Put
pub mod Front

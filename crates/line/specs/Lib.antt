-- The definitions that the contracts of `line` cite. Assumes nothing.
pub mod Digits
pub mod Line
pub mod Proposal
pub mod Word

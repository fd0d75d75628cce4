-- The definitions that the contracts of `virial` cite. Assumes nothing.
pub mod Profile
pub mod Sums
pub mod Rules
pub mod Itself
pub mod Ranged
pub mod Reading
pub mod Answers
pub mod Limits

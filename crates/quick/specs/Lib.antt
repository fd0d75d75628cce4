-- The definitions that the contracts of `quick` cite. Assumes nothing.
pub mod Unpacked
pub mod Filled
pub mod Powers
pub mod Keys
pub mod Ready
pub mod Kept
pub mod Reading
pub mod Lent

-- Laws that the proofs of the functions share, and that other crates cite. Assumes nothing.
pub mod Compare
pub mod Within
pub mod Limits
pub mod Pattern
pub mod Neighbours
pub mod Read
pub mod Handed
pub mod Shift
pub mod Settling
pub mod Write
pub mod Largest
pub mod Doubling
pub mod Turn
pub mod Given
pub mod Examples

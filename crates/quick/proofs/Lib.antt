-- The laws of the quick engine. Assumes nothing.
pub mod Filled
pub mod Listed
pub mod Laid
pub mod Alike
pub mod PowersKept
pub mod Reached
pub mod Rowed
pub mod Passed
pub mod Shared
pub mod Passing
pub mod Stated
pub mod Same
pub mod Held

-- The laws of `verdict`. Assumes nothing.
pub mod Order
pub mod Tests
pub mod Tables
pub mod EitherWidth
pub mod SoundPairs
pub mod HandedOut
pub mod Ready
pub mod Covered
pub mod Settled
pub mod Demand1
pub mod Demand2
pub mod Demand3
pub mod Glance

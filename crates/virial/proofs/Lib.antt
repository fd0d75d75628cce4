-- The laws of the vapour card. Assumes nothing.
pub mod Wider
pub mod Picked
pub mod Ranges
pub mod Covers
pub mod Holds
pub mod Cases
pub mod Numbers
pub mod Doubled
pub mod Near
pub mod Weighed
pub mod Thirds
pub mod Limits
pub mod Settled
pub mod Demand1
pub mod Demand2

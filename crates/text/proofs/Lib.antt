-- The laws of `text`. Assumes nothing.
pub mod Rows
pub mod Terms
pub mod Delivered
pub mod One
pub mod ReadSettled
pub mod OneSpelling
pub mod WriteSettled
pub mod RoundTrips
pub mod Lines
pub mod Decided
pub mod Enough
pub mod Cases

-- The laws of `row`. Assumes nothing.
pub mod Back
pub mod Length
pub mod Lines
pub mod Parts
pub mod Guessed
pub mod Reading
pub mod Decided
pub mod Saying
pub mod Cases

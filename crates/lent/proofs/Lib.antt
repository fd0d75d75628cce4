-- The laws of `lent`. Assumes nothing.
pub mod Joined
pub mod Behind
pub mod Steps
pub mod Fronts

-- The definitions that the contracts of `row` cite. Assumes nothing.
pub mod Row
pub mod Standing
pub mod Guess
pub mod Saying
pub mod Lines
pub mod Printed

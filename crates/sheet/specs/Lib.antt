-- Sheet numbers: what they are, how they are rounded, how large they are. Assumes nothing.
pub mod Magnitude
pub mod Number
pub mod Round
pub mod Onward
pub mod Range
pub mod Steps

-- The rules that the contracts cite. Assumes nothing.
pub mod Double
pub mod Range
pub mod Decoded
pub mod Handed
pub mod Encoded
pub mod Ratio

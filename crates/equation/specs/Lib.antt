-- The rules, the equation itself, and what the contracts cite. Assumes nothing.
pub mod Constants
pub mod Itself
pub mod Rules
pub mod Value
pub mod Clip
pub mod Plain
pub mod Accepted
pub mod Ranged

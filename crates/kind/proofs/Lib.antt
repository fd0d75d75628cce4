-- The laws of `kind`. Assumes nothing.
pub mod Either

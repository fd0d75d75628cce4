-- The laws of `convert`. Assumes nothing.
pub mod Forms
pub mod Loop
pub mod Delivered
pub mod Settled
pub mod Tables

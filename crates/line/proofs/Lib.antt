-- What the proofs of several functions use.
pub mod Spelt
pub mod NotANumber
pub mod BytesNumber
pub mod Held
pub mod Meaning
pub mod Tried
pub mod Words

-- The laws of `panel`. Assumes nothing.
pub mod Choices
pub mod AcceptedCall
pub mod TypedSettled
pub mod ConvertedSettled
pub mod Lengthened
pub mod LentSettled

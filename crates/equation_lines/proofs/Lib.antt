-- What the proofs of the program share. Assumes nothing.
pub mod Given

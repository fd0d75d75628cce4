-- What the program asks of its input. Assumes nothing.
pub mod End

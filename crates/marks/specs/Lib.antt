-- What the loops ask of their operands. Assumes nothing.
pub mod Argument

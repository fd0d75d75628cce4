-- Laws of the loops' operands. Assumes nothing.
pub mod Arguments

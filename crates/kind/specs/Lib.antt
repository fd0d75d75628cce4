-- What the kinds of table differ in. Assumes nothing.
pub mod Kind

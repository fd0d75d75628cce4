-- Row 38: its fields are spelled as document 02 prints them, they are good, and they say the term of document 01. Assumes nothing.
use mathlib.Core.Path.{◌≡◌, refl}
use Rattle.term.specs.Packed.{plain_factor}
use Rattle.term.specs.Row.{fields38}
use Rattle.row.specs.Row.{small, spaced, front, digits, tail, row_text, Good, good_row, term_of}
use Rattle.row.specs.Printed.{typed38, fields_typed38}
use Rattle.row.proofs.Reading.{test_good}

pub row38-text : row_text fields_typed38 ≡ typed38
unfolding typed38 fields_typed38 row_text spaced small front digits tail
row38-text = refl

pub row38-good : Good fields_typed38
unfolding fields_typed38 good_row
row38-good = test_good fields_typed38 refl

pub row38-term : term_of fields_typed38 ≡ fields38
unfolding fields_typed38 fields38 term_of plain_factor
row38-term = refl

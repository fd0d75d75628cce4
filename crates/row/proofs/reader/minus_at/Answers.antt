-- `row::reader::minus_at` meets its contract. Assumes nothing.
use native.Mathlib.Nat.{add-zero}
use lib.Seq.{get_or-drop}
use Rattle.row.specs.Guess.{sign_of}
use Rattle.row.proofs.reader.minus_at.Goals as goal

pub returns : goal.returns
unfolding sign_of
returns c = rw (c.byte_at.ensures, get_or-drop, add-zero)

-- `row::reader::short_at` meets its contract. Assumes nothing.
use lib.Seq.{get_or-drop}
use Rattle.row.specs.Guess.{short_small}
use Rattle.row.proofs.reader.short_at.Goals as goal

pub returns : goal.returns
unfolding short_small
returns c = rw (c.byte_at.ensures, get_or-drop)

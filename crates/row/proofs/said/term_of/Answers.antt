-- `row::said::term_of` meets its contract. Assumes nothing.
use Rattle.row.specs.Row.{term_of}
use Rattle.row.proofs.said.term_of.Goals as goal

pub returns : goal.returns
unfolding term_of
returns c = rw (c.plain_factor.ensures, c.scaled.ensures)

-- `row::reader::front_at` meets its contract. Assumes nothing.
use native.Mathlib.Omega.{arith}
use mathlib.Core.Path.{sym, ◌∙◌}
use Rattle.row.specs.Guess.{front_past}
use Rattle.row.proofs.reader.front_at.Goals as goal

pub returns-then-minus_at : goal.returns-then-minus_at
unfolding front_past
returns-then-minus_at c = (rw (sym c.minus_at.ensures ∙ c.if-minus_at.true), omega arith)

pub returns-else-minus_at : goal.returns-else-minus_at
unfolding front_past
returns-else-minus_at c = (rw (sym c.minus_at.ensures ∙ c.if-minus_at.false), omega arith)

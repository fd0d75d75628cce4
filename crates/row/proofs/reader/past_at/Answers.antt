-- `row::reader::past_at` meets its contract. Assumes nothing.
use native.Mathlib.Omega.{arith}
use mathlib.Core.Path.{sym, ◌∙◌}
use Rattle.row.specs.Guess.{past}
use Rattle.row.proofs.reader.past_at.Goals as goal

pub returns-then-short_at : goal.returns-then-short_at
unfolding past
returns-then-short_at c = (rw (sym c.short_at.ensures ∙ c.if-short_at.true), omega arith)

pub returns-else-short_at : goal.returns-else-short_at
unfolding past
returns-else-short_at c = (rw (sym c.short_at.ensures ∙ c.if-short_at.false), omega arith)

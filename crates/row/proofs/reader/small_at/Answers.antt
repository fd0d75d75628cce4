-- `row::reader::small_at` meets its contract. Assumes nothing.
use Prim.Native.Nat.{◌+◌, ◌*◌}
use native.Mathlib.Nat.{add-zero}
use mathlib.Core.Path.{sym, ap₂, ◌∙◌}
use lib.Seq.{get_or-drop}
use Rattle.row.specs.Guess.{small_of}
use Rattle.row.proofs.reader.small_at.Goals as goal

pub returns-then-short_at : goal.returns-then-short_at
unfolding small_of
returns-then-short_at c = rw (sym c.short_at.ensures ∙ c.if-short_at.true, get_or-drop, add-zero) c.figure_at-first.ensures.value

pub returns-else-short_at : goal.returns-else-short_at
unfolding small_of
returns-else-short_at c =
    rw (sym c.short_at.ensures ∙ c.if-short_at.false, get_or-drop, add-zero, get_or-drop)
    (ap₂ (λ a b. a * 10 + b) c.figure_at-first.ensures.value c.figure_at.ensures.value)

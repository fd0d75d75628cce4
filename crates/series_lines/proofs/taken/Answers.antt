-- `series_lines::taken` meets its contract: both ends are usable and in order. Assumes nothing.
use mathlib.Core.Path.{sym, ◌∙◌}
use mathlib.Core.Bool.{false≢true}
use Rattle.exact.proofs.Fraction.Order.{leq-true}
use Rattle.series_lines.proofs.taken.Goals.{then-usable, else-usable}
use Rattle.series_lines.proofs.taken.Goals as goal

pub returns-then-usable-2 : goal.returns-then-usable-2
returns-then-usable-2 c t = elim c.if-usable.branch [
  | then-usable w ↦
      let l = c.usable.ensures w.if-usable.true in
      let h = w.usable-then-usable.ensures (sym w.value-is ∙ c.if-usable-2.true) in
      let o = leq-true _ _ (sym c.at_most.ensures ∙ t) in
      (record { lo = l.range; hi = h.range; order = o }, record { order = o; above = l.above; sized = record { low = l.sized; high = h.sized } })
  | else-usable w ↦ absurd (false≢true (sym w.if-usable.false ∙ sym w.value-is ∙ c.if-usable-2.true))
]

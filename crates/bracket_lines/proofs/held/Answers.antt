-- `bracket_lines::held` meets its contract: both ends are in range and in order. Assumes nothing.
use mathlib.Core.Path.{sym, ◌∙◌}
use mathlib.Core.Bool.{false≢true}
use Rattle.exact.proofs.Fraction.Order.{leq-true}
use Rattle.bracket_lines.proofs.held.Goals.{then-usable, else-usable}
use Rattle.bracket_lines.proofs.held.Goals as goal

pub returns-then-usable-2 : goal.returns-then-usable-2
returns-then-usable-2 c t = elim c.if-usable.branch [
  | then-usable w ↦ record {
    lo = c.usable.ensures w.if-usable.true;
    hi = w.usable-then-usable.ensures (sym w.value-is ∙ c.if-usable-2.true);
    order = leq-true _ _ (sym c.at_most.ensures ∙ t);
  }
  | else-usable w ↦ absurd (false≢true (sym w.if-usable.false ∙ sym w.value-is ∙ c.if-usable-2.true))
]

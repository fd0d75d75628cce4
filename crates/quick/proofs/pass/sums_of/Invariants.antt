-- `quick::pass::sums_of` meets its contract. Assumes nothing.
use mathlib.Core.Path.{◌≡◌}
use mathlib.Core.List.{List}
use lib.ListN.{length}
use Rattle.bracket.specs.declared.Bracket.{Bracket}
use Prim.Native.Nat.{suc}
use Rattle.quick.proofs.Passed.{KeptTo, sums_rows}
use Rattle.quick.proofs.pass.sums_of.Given as goal

-- four lists of 64 places
abbrev pub Full : (gs es ws factors : List Bracket) → Type 0
Full gs es ws factors = (length gs ≡ 64) × (length es ≡ 64) × (length ws ≡ 64) × (length factors ≡ 64)

abbrev pub invariant-loop-i : goal.invariant-loop-i
invariant-loop-i l = Full l.gs l.es l.ws l.factors × KeptTo (suc l.v) l.rows l.deltas l.gs l.es l.ws l.factors l.i × (l.s ≡ sums_rows (suc l.v) l.rows l.deltas l.i)

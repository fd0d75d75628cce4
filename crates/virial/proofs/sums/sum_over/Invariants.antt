-- `virial::sums::sum_over` meets its contract: after i turns the sum is that over the first i terms. Assumes nothing.
use mathlib.Core.Path.{◌≡◌}
use Prim.Native.Nat.{suc}
use Rattle.term.specs.Packed.{term_at}
use Rattle.virial.specs.Sums.{sum_first}
use Rattle.virial.proofs.sums.sum_over.Given as goal

abbrev pub invariant-loop-i : goal.invariant-loop-i
invariant-loop-i g l = l.s ≡ sum_first (suc l.v) l.pick (term_at l.table.kind l.table.bytes.now) l.tau l.i

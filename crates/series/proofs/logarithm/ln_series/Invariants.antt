-- `series::logarithm::ln_series` meets its contract. The loop's invariant: the state is the rule's power and sum to j. Assumes nothing.
use mathlib.Core.Path.{◌≡◌}
use Prim.Native.Nat.{suc}
use Rattle.series.specs.Powers.{powers_to}
use Rattle.series.proofs.logarithm.ln_series.Given as goal

abbrev pub invariant-loop-j : goal.invariant-loop-j
invariant-loop-j l = record { power = l.power; sum = l.sum } ≡ powers_to (suc l.v) l.initial.power l.j

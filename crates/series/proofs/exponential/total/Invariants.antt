-- `series::exponential::total` meets its contract. The loop's invariant: the state is the rule's term and sum to k. Assumes nothing.
use mathlib.Core.Path.{◌≡◌}
use Prim.Native.Nat.{suc}
use Rattle.bracket.specs.Rules.{ends}
use Rattle.series.specs.Terms.{terms_to}
use Rattle.series.proofs.exponential.total.Given as goal

abbrev pub invariant-loop-k : goal.invariant-loop-k
invariant-loop-k l = record { term = l.term; sum = l.sum } ≡ terms_to (suc l.v) (ends l.x) l.k

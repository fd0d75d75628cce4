-- `ratio::ratio_exponent` meets its contract. The loop holds the vapour's density doubled k times, at most 21 times. Assumes nothing.
use Prim.Native.Nat.{◌-◌}
use Rattle.doubles.proofs.Turn.{Held}
use Rattle.doubles.proofs.ratio.ratio_exponent.Given as goal

abbrev pub invariant-loop-v : goal.invariant-loop-v
invariant-loop-v l = Held l.liquid l.vapour l.v l.k

abbrev pub decreases-loop-v : goal.decreases-loop-v
decreases-loop-v l = 22 - l.k

-- `bracket_lines::raised` meets its contract: on the way every lower power is found in range. Assumes nothing.
use mathlib.Core.Path.{◌≡◌}
use Prim.Native.Nat.{ℕ, suc, ◌<◌}
use Rattle.bracket.specs.Rules.{power}
use Rattle.bracket.specs.Held.{Held}
use Rattle.bracket_lines.proofs.raised.Given as goal

abbrev pub invariant-loop-k : goal.invariant-loop-k
invariant-loop-k l = (l.p ≡ power (suc l.v) l.b l.k) × ((j : ℕ) → j < l.k → Held l.v (power (suc l.v) l.b j))

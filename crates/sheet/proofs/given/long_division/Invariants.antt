-- `sheet::given::long_division` meets its contract. The loop's invariant: what is found and what is left over are the whole quotient, and
-- after the first turn what is left over is below the divisor. Assumes nothing.
use mathlib.Core.Path.{◌≡◌}
use Prim.Native.Nat.{◌+◌, ◌*◌, ◌/◌, ◌^◌, ◌≤◌, ◌<◌}
use Rattle.sheet.proofs.given.long_division.Given as goal

abbrev pub invariant-loop-x : goal.invariant-loop-x
invariant-loop-x l =
    ((l.x.digits * l.den + l.x.rest) * 2 ^ l.x.place ≡ l.num * 2 ^ l.from) × (0 < l.x.digits → l.x.rest < l.den) × (l.x.place < l.from → l.x.rest < l.den) × (l.x.place ≤ l.from)

abbrev pub decreases-loop-x : goal.decreases-loop-x
decreases-loop-x l = l.x.place + l.x.rest / l.den

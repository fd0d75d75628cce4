-- `term::bits::field` meets its contract. The loop's invariant: the value is the field of the bits passed, and a byte starts behind them if more
-- are wanted. Assumes nothing.
use mathlib.Core.Path.{◌≡◌}
use Prim.Native.Nat.{◌≤◌, ◌+◌, ◌-◌, ◌%◌, min}
use Rattle.term.specs.Bits.{field}
use Rattle.term.proofs.bits.field.Given as goal

abbrev pub invariant-loop-i : goal.invariant-loop-i
invariant-loop-i l = (l.i ≤ l.count) × (min ((l.first + l.i) % 8) (l.count - l.i) ≡ 0) × (l.value ≡ field l.bytes l.first l.i)

abbrev pub decreases-loop-i : goal.decreases-loop-i
decreases-loop-i l = l.count - l.i

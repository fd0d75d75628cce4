-- `sheet::divide::long` meets its contract. The loop's invariant: after k turns the digits are those of the quotient times 2^(9 + 11k).
-- Assumes nothing.
use Prim.Native.Nat.{◌-◌, ◌*◌, ◌^◌, ◌≤◌}
use Rattle.sheet.specs.Steps.{Quotes}
use Rattle.sheet.proofs.divide.long.Given as goal

abbrev pub invariant-loop : goal.invariant-loop
invariant-loop l = Quotes (l.am * 512 * 2048 ^ l.counter) l.bm l.x × (l.counter ≤ 4)

abbrev pub decreases-loop : goal.decreases-loop
decreases-loop l = 4 - l.counter

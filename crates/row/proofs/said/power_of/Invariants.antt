-- `row::said::power_of` meets its contract. The loop's invariant: at the powers passed ten digits are too few. Assumes nothing.
use Prim.Native.Nat.{ℕ, ◌*◌, ◌^◌, ◌≤◌, ◌<◌}
use Rattle.row.proofs.said.power_of.Given as goal

abbrev pub invariant-loop-power : goal.invariant-loop-power
invariant-loop-power l = (j : ℕ) → j < l.power → 10 ^ 10 * 10 ^ j ≤ l.magnitude

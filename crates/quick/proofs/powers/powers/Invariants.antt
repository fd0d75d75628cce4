-- `quick::powers::powers` meets its contract. Assumes nothing.
use mathlib.Core.Path.{◌≡◌}
use Prim.Native.Nat.{suc}
use lib.ListN.{length}
use Rattle.quick.specs.Powers.{PowersTo}
use Rattle.quick.proofs.powers.powers.Given as goal

abbrev pub invariant-loop-i : goal.invariant-loop-i
invariant-loop-i l = (length l.list ≡ 64) × PowersTo (suc l.v) l.base l.i l.list

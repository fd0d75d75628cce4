-- `quick::ready::rows_of` meets its contract. Assumes nothing.
use mathlib.Core.Path.{◌≡◌}
use Prim.Native.Nat.{suc}
use lib.ListN.{length, get_or}
use Rattle.quick.specs.Unpacked.{blank}
use Rattle.quick.specs.Powers.{nothing}
use Rattle.quick.specs.Ready.{RowsTo}
use Rattle.quick.proofs.ready.rows_of.Given as goal

abbrev pub invariant-loop-i : goal.invariant-loop-i
invariant-loop-i l = (length l.rows ≡ 64) × RowsTo (suc l.v) (λ k. get_or l.terms k blank) (λ t. get_or l.taus t nothing) l.rows l.i

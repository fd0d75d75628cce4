-- `quick::keys::keys_of` meets its contract. Assumes nothing.
use mathlib.Core.Bool.{true, false}
use mathlib.Core.Path.{◌≡◌}
use lib.ListN.{length}
use Rattle.quick.specs.Keys.{KeysTo}
use Rattle.quick.proofs.keys.keys_of.Given as goal

abbrev pub invariant-loop-i : goal.invariant-loop-i
invariant-loop-i l = (length l.keys.same ≡ 64) × (length l.keys.like ≡ 64) × KeysTo false l.terms l.i l.keys.same × KeysTo true l.terms l.i l.keys.like

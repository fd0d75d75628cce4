-- `quick::unpacked::terms_of` meets its contract: after i turns the first i terms stand in front of blanks. Assumes nothing.
use mathlib.Core.Path.{◌≡◌}
use mathlib.Core.List.{◌++◌}
use lib.ListN.{length, drop, replicate}
use Rattle.term.specs.Packed.{terms_from}
use Rattle.quick.specs.Unpacked.{blank}
use Rattle.quick.proofs.unpacked.terms_of.Given as goal

abbrev pub invariant-loop-i : goal.invariant-loop-i
invariant-loop-i l = (length l.list ≡ 64) × (l.list ≡ terms_from l.table.kind l.table.bytes.now 0 l.i ++ drop l.i (replicate 64 blank))

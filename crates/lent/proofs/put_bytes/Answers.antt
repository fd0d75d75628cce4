-- `lent::put_bytes` meets its contract. Assumes nothing.
use native.Mathlib.Omega.{arith}
use mathlib.Core.Path.{◌≡◌, refl}
use Prim.Native.Nat.{◌+◌, ◌-◌}
use mathlib.Core.List.{append_assoc}
use lib.ListN.{length}
use lib.Seq.{sets-eq, drop-drop}
use Rattle.lent.proofs.put_bytes.Goals as goal

pub returns : goal.returns
returns c =
    let a = c.args in
    let past : a.at + length a.from.now - a.at ≡ length a.from.now = omega arith in
    record { bytes = rw (c.copy_from_slice.ensures.after, sets-eq a.from.now a.out.now a.at c.requires, append_assoc, past) (rw (← drop-drop) refl); reached = refl }

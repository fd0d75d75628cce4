-- `row::reader::stands` meets its contract. Assumes nothing.
use Prim.Native.Nat.{◌-◌}
use native.Mathlib.Omega.{arith}
use mathlib.Core.Path.{◌≡◌}
use lib.ListN.{length, drop, take, length-drop}
use lib.Seq.{take_all}
use Rattle.row.proofs.Parts.{stands_when}
use Rattle.row.proofs.reader.stands.Goals as goal

pub returns : goal.returns
returns c =
    let a = c.args in
    let all : take (length a.text.now - a.at) (drop a.at a.text.now) ≡ drop a.at a.text.now = take_all _ _ (omega (arith, length-drop a.at a.text.now)) in
    stands_when a.text.now a.line.now a.at _ c.requires (rw all at c.starts_with.ensures.value)

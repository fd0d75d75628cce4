-- `sheet::add::added` meets its contract. Assumes nothing.
use mathlib.Core.Path.{sym, ◌∙◌}
use Prim.Native.Nat.{◌+◌}
use native.Mathlib.Omega.{arith}
use Rattle.sheet.specs.Range.{extent}
use Rattle.sheet.proofs.Addends.{pair}
use Rattle.sheet.proofs.Sums.{place_add}
use Rattle.sheet.proofs.Operations.{sum_same}
use Rattle.sheet.proofs.add.added.Goals as goal

pub aligned-x-requires : goal.aligned-x-requires
aligned-x-requires c = (c.requires.0.some, (pair c.args.v c.args.a c.args.b c.requires.0).place)

pub overflow_add-a : goal.overflow_add-a
overflow_add-a c =
    let p = pair c.args.v c.args.a c.args.b c.requires.0 in
    omega (arith, p.small, p.small₂, p.room, c.aligned-x.ensures.small)

pub trimmed-requires : goal.trimmed-requires
trimmed-requires c =
    let p = pair c.args.v c.args.a c.args.b c.requires.0 in
    (c.requires.0.first.width, omega (arith, p.full), omega (arith, p.small, p.small₂, c.aligned-x.ensures.small), omega (arith, p.high))

pub returns : goal.returns
returns c =
    let k = c.args in
    let x = c.aligned-x in
    c.trimmed.ensures (extent k.a + extent k.b) 1 (place_add k.a.m x.result.m x.result.sticky k.a.e (extent k.b) x.ensures.found)
    ∙ sym (sum_same k.up k.v k.a k.b c.requires.1)

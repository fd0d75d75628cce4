-- `sheet::place::topped` meets its contract: as far up as there are leading zeros. Assumes nothing.
use Prim.Native.Nat.{◌-◌}
use native.Mathlib.Omega.{arith}
use lib.Count.{leading_le}
use Rattle.sheet.specs.declared.place.Found.{Found}
use Rattle.sheet.specs.Steps.{Loose}
use Rattle.sheet.proofs.Normalising.{movable, at_top}
use Rattle.sheet.proofs.Finishing.{rounds-kept}
use Rattle.sheet.proofs.place.topped.Goals.{After-from}
use Rattle.sheet.proofs.place.topped.Goals as goal

abbrev given : After-from → Found
given c = record { m = c.args.m; sticky = c.args.sticky; e = c.args.e }

loose : (c : After-from) → Loose c.args.v 0 (given c)
loose c =
    let r = c.requires.1 in
    record { few = omega (arith, c.requires.0.high); near = omega arith; full = λ t p. r.full t p; room = r.room }

pub moved-y-requires : goal.moved-y-requires
moved-y-requires c =
    movable c.args.v 0 (given c) (loose c) (63 - c.args.v) (omega (arith, c.requires.0.high)) (omega arith) _ c.requires.2 (omega (arith, c.from.ensures)) (omega (arith, c.requires.3, c.from.ensures, leading_le 64 c.args.m))

pub ended-requires : goal.ended-requires
ended-requires c =
    let t = at_top c.args.v 0 (given c.before) (loose c.before) (63 - c.args.v) (omega (arith, c.requires.0.high)) (omega arith) _ c.requires.2 (omega (arith, c.from.ensures)) (omega (arith, c.requires.3, c.from.ensures, leading_le 64 c.args.m))
    c.moved-y.result (λ _. c.from.ensures) c.moved-y.ensures in
    let p = c.moved-y.ensures.place in
    let l = leading_le 64 c.args.m in
    let s = c.from.ensures in
    (c.requires.0, record { low = t.full (omega (arith, c.requires.3)); high = t.small }, omega (arith, c.requires.1.room))

pub returns : goal.returns
returns c =
    let a = c.args in
    let t = at_top a.v 0 (given c.before.before) (loose c.before.before) (63 - a.v) (omega (arith, c.requires.0.high)) (omega arith) _ c.requires.2 (omega (arith, c.from.ensures)) (omega (arith, c.requires.3, c.from.ensures, leading_le 64 a.m))
    c.moved-y.result (λ _. c.from.ensures) c.moved-y.ensures in
    rounds-kept a.up a.neg a.v (given c.before.before) c.moved-y.result c.ended.result t.keeps (record { small = t.small; full = t.full }) c.ended.ensures

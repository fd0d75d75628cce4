-- `sheet::place::normalised` meets its contract. Assumes nothing.
use native.Mathlib.Nat.{pos_of_ne-zero}
use native.Mathlib.Omega.{arith}
use Rattle.sheet.proofs.Normalising.{none, far, movable, at_top}
use Rattle.sheet.proofs.place.normalised.Goals as goal

pub returns-then-x-eq0 : goal.returns-then-x-eq0
returns-then-x-eq0 c = let k = c.args in none k.v k.last k.x c.requires c.if-x-eq0.true

pub returns-then-x-u : goal.returns-then-x-u
returns-then-x-u c =
    let k = c.args in
    far k.v k.last k.x c.requires _ (omega (arith, c.requires.few)) (omega arith) c.cut.result c.if-x-u.true c.cut.ensures

pub moved-requires : goal.moved-requires
moved-requires c =
    let k = c.args in
    movable k.v k.last k.x c.requires _ (omega (arith, c.requires.few)) (omega arith) _ (pos_of_ne-zero c.if-x-eq0.false) (omega (arith, c.min-s.ensures, c.from.ensures)) (omega (arith, c.min-s.ensures, c.if-x-u.false))

pub returns-else-x-u : goal.returns-else-x-u
returns-else-x-u c =
    let k = c.args in
    at_top k.v k.last k.x c.requires _ (omega (arith, c.requires.few)) (omega arith) _ (pos_of_ne-zero c.if-x-eq0.false) (omega (arith, c.min-s.ensures, c.from.ensures)) (omega (arith, c.min-s.ensures, c.if-x-u.false)) c.moved.result
    (λ h. omega (arith, c.min-s.ensures, c.from.ensures)) c.moved.ensures

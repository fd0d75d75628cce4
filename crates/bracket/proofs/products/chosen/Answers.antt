-- `bracket::products::chosen` meets its contract: each case of the signs is a row of the table. Assumes nothing.
use mathlib.Core.Path.{sym, subst}
use mathlib.Core.Bool.{true, false}
use Prim.Native.Nat.{ℕ}
use Rattle.exact.specs.Fraction.{nat, ◌≼◌}
use Rattle.exact.proofs.Fraction.Order.{≼_trans}
use Rattle.sheet.specs.Number.{value}
use Rattle.bracket.specs.declared.Bracket.{Bracket}
use Rattle.bracket.specs.Held.{Held}
use Rattle.bracket.specs.Meets.{Meets}
use Rattle.bracket.proofs.Ends.{sign-of}
use Rattle.bracket.proofs.Meetings.{meets, meets-comm, signs_apart, signs_below}
use Rattle.bracket.proofs.products.chosen.Goals as goal

-- the lower end is where the upper is, or further from it
under : {v : ℕ} {b : Bracket} → Held v b → value b.hi ≼ nat 0 → value b.lo ≼ nat 0
under h k = ≼_trans h.order k

pub returns-then-a : goal.returns-then-a
returns-then-a c =
    let k = c.args in
    let h = c.requires in
    let ah = sign-of k.a.hi c.if-a.true in
    subst (Meets k.v k.a k.b) (sym c.met.ensures)
    (meets true true true h.0 h.1 (sign-of k.b.hi c.if-b.true) ah (under h.0 ah))

pub returns-then-a-2 : goal.returns-then-a-2
returns-then-a-2 c =
    let k = c.args in
    let h = c.requires in
    subst (Meets k.v k.a k.b) (sym c.met-then-a-2.ensures)
    (meets true false true h.0 h.1 (sign-of k.b.hi c.if-b.true) (sign-of k.a.hi c.if-a.false) (sign-of k.a.lo c.if-a-2.true))

pub returns-then-b : goal.returns-then-b
returns-then-b c =
    let k = c.args in
    let h = c.requires in
    subst (Meets k.v k.a k.b) (sym c.met-then-b.ensures)
    (meets true false false h.0 h.1 (sign-of k.b.hi c.if-b.true) (sign-of k.a.hi c.if-a.false) (sign-of k.a.lo c.if-a-2.false))

pub returns-then-a-3 : goal.returns-then-a-3
returns-then-a-3 c =
    let k = c.args in
    let h = c.requires in
    let b = c.if-b.false in
    subst (Meets k.v k.a k.b) (sym c.met-then-a-3.ensures)
    (meets-comm (meets true false true h.1 h.0 (sign-of k.a.hi c.if-a-3.true) (sign-of k.b.hi b) (sign-of k.b.lo (signs_below k.b.lo.neg k.b.hi.neg b h.2))))

pub returns : goal.returns
returns c =
    let k = c.args in
    let h = c.requires in
    let b = c.if-b.false in
    let bl = signs_below k.b.lo.neg k.b.hi.neg b h.2 in
    let al = signs_apart k.a.lo.neg c.if-a-3.false b bl h.3 in
    subst (Meets k.v k.a k.b) (sym c.met-2.ensures)
    (meets-comm (meets false true false h.1 h.0 (sign-of k.a.lo al) (sign-of k.b.lo bl) (sign-of k.b.hi b)))

-- `sheet::divide::quotient` meets its contract. Assumes nothing.
use mathlib.Core.Path.{◌≡◌, sym, ◌∙◌}
use mathlib.Core.Bool.{false}
use Prim.Native.Nat.{ℕ, suc, ◌+◌, ◌-◌, ◌*◌, ◌^◌, ◌≤◌, ◌<◌}
use native.Mathlib.Omega.{arith}
use Rattle.exact.specs.Fraction.{nat, ◌≺◌}
use Rattle.sheet.specs.declared.Sheet.{Sheet}
use Rattle.sheet.specs.Number.{bias, value, Digits}
use Rattle.sheet.specs.Range.{InRange}
use Rattle.sheet.proofs.Live.{bias-is, live}
use Rattle.sheet.proofs.Divisions.{quotes_place, shared_digits}
use Rattle.sheet.proofs.Operations.{quotient_is, quotient-zero, above_zero}
use Rattle.sheet.proofs.divide.quotient.Goals as goal

record Ranges (v : ℕ) (a b : Sheet) : Type 0 where
  plain : b.neg ≡ false
  pos : 0 < b.m
  first : Digits v a.m
  second : Digits v b.m
  high : a.e ≤ 400000
  low : b.e + v ≤ a.e + 262143
  few : v ≤ 52
  place : a.e + 262143 - v - b.e + suc v + b.e ≡ a.e + bias

ranges : (v : ℕ) (a b : Sheet) → (InRange v a × InRange v b) × (nat 0 ≺ value b) → (a.m ≡ 0 → ⊥) → Ranges v a b
ranges v a b h p =
    let k = above_zero b h.1 in
    let w = h.0.0.width in
    let x = live v 80000 80000 a h.0.0.within p in
    let y = live v 80000 80000 b h.0.1.within (λ z. omega (arith, k.1)) in
    let z = bias-is in
    record {
      plain = k.0;
      pos = k.1;
      first = record { low = x.full; high = x.small };
      second = record { low = y.full; high = y.small };
      high = omega (arith, x.high);
      low = omega (arith, x.low, y.high, w.high);
      few = w.high;
      place = omega (arith, x.low, y.high, w.high);
    }

pub returns-then-a-eq0 : goal.returns-then-a-eq0
returns-then-a-eq0 c =
    let k = above_zero c.args.b c.requires.1 in
    sym (quotient-zero c.args.up c.args.v c.args.a c.args.b k.0 k.1 c.if-a-eq0.true)

pub shared-x-requires : goal.shared-x-requires
shared-x-requires c = let r = ranges c.args.v c.args.a c.args.b c.requires c.if-a-eq0.false in (c.requires.0.0.width, r.first, r.second)

pub overflow_add-a : goal.overflow_add-a
overflow_add-a c = omega (arith, (ranges c.args.v c.args.a c.args.b c.requires c.if-a-eq0.false).high)

pub overflow_sub-a : goal.overflow_sub-a
overflow_sub-a c = omega (arith, (ranges c.args.v c.args.a c.args.b c.requires c.if-a-eq0.false).few)

pub overflow_sub-a-2 : goal.overflow_sub-a-2
overflow_sub-a-2 c = omega (arith, (ranges c.args.v c.args.a c.args.b c.requires c.if-a-eq0.false).low)

pub trimmed-requires : goal.trimmed-requires
trimmed-requires c =
    let k = c.args in
    let r = ranges c.args.v c.args.a c.args.b c.requires c.if-a-eq0.false in
    let d = shared_digits k.v k.a.m k.b.m c.shared-x.result c.shared-x.ensures r.first r.second in
    (c.requires.0.0.width, d.0, d.1, omega (arith, r.high))

pub returns : goal.returns
returns c =
    let k = c.args in
    let r = ranges c.args.v c.args.a c.args.b c.requires c.if-a-eq0.false in
    let x = c.shared-x in
    let e = k.a.e + 262143 - k.v - k.b.e in
    let n = k.a.m * 2 ^ suc k.v in
    c.trimmed.ensures (n * 2 ^ e) k.b.m (quotes_place n k.b.m e x.result x.ensures)
    ∙ sym (quotient_is k.up k.v k.a k.b e (suc k.v) r.plain r.pos r.place)

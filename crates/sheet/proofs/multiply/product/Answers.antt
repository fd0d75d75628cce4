-- `sheet::multiply::product` meets its contract. Assumes nothing.
use mathlib.Core.Path.{◌≡◌, sym, ◌∙◌, subst}
use mathlib.Core.Logic.{◌⊎◌, inl, inr, ⊎_elim}
use mathlib.Core.Bool.{false, xor}
use Prim.Native.Nat.{ℕ, ◌+◌, ◌-◌, ◌*◌, ◌/◌, ◌^◌, ◌≤◌, ◌<◌}
use native.Mathlib.Nat.{mul-one}
use native.Mathlib.Omega.{arith}
use lib.Pow.{pow_pos}
use Rattle.sheet.specs.declared.Sheet.{Sheet}
use Rattle.sheet.specs.Magnitude.{Place}
use Rattle.sheet.specs.Number.{Digits}
use Rattle.sheet.specs.Range.{InRange}
use Rattle.sheet.proofs.Gaps.{zero_or_pos}
use Rattle.sheet.proofs.Live.{bias-is, live, range_spelled}
use Rattle.sheet.proofs.Places.{place_whole, place_scale}
use Rattle.sheet.proofs.Products.{product_digits, product_none}
use Rattle.sheet.proofs.Operations.{product_is, product_zero}
use Rattle.sheet.proofs.multiply.product.Goals as goal

record Ranges (v : ℕ) (a b : Sheet) : Type 0 where
  first : Digits v a.m
  second : Digits v b.m
  low : 262144 ≤ a.e + b.e
  high : a.e + b.e ≤ 800000

ranges : (v : ℕ) (a b : Sheet) → InRange v a × InRange v b → (a.m ≡ 0 → ⊥) → (b.m ≡ 0 → ⊥) → Ranges v a b
ranges v a b h p q =
    let x = live v 80000 80000 a h.0.within p in
    let y = live v 80000 80000 b h.1.within q in
    let z = bias-is in
    record {
      first = record { low = x.full; high = x.small };
      second = record { low = y.full; high = y.small };
      low = omega (arith, x.low, y.low);
      high = omega (arith, x.high, y.high);
    }

-- no digits are left only where a factor is zero
some-zero : (v : ℕ) (a b : Sheet) (m : ℕ) → InRange v a × InRange v b → m ≡ a.m * b.m / 2 ^ v → m ≡ 0 → (a.m ≡ 0) ⊎ (b.m ≡ 0)
some-zero v a b m h e z = ⊎_elim inl (λ p. ⊎_elim inr (λ q. absurd (none p q)) (zero_or_pos b.m)) (zero_or_pos a.m)
  where
    none : 0 < a.m → 0 < b.m → ⊥
    none p q =
        let r = ranges v a b h (λ k. omega arith) (λ k. omega arith) in
        omega (arith, (product_digits v a.m b.m m e r.first r.second).0, pow_pos v)

pub multiplied-x-requires : goal.multiplied-x-requires
multiplied-x-requires c = (c.requires.0.width, (range_spelled c.requires.0).fit.small, (range_spelled c.requires.1).fit.small)

pub returns-then-x-eq0 : goal.returns-then-x-eq0
returns-then-x-eq0 c =
    let k = c.args in
    sym (product_zero k.up k.v k.a k.b (some-zero k.v k.a k.b c.multiplied-x.result.m c.requires c.multiplied-x.ensures.digits c.if-x-eq0.true))

-- and where some are left, none is
some : (v : ℕ) (a b : Sheet) (m : ℕ) → InRange v a × InRange v b → m ≡ a.m * b.m / 2 ^ v → (m ≡ 0 → ⊥) → Ranges v a b
some v a b m h e n =
    ranges v a b h (λ z. n (product_none v a.m b.m m e (inl z))) (λ z. n (product_none v a.m b.m m e (inr z)))

pub overflow_add-a : goal.overflow_add-a
overflow_add-a c =
    let r = some c.args.v c.args.a c.args.b c.multiplied-x.result.m c.requires c.multiplied-x.ensures.digits c.if-x-eq0.false in
    omega (arith, r.high)

pub overflow_add-a-else-x-eq0 : goal.overflow_add-a-else-x-eq0
overflow_add-a-else-x-eq0 c =
    let r = some c.args.v c.args.a c.args.b c.multiplied-x.result.m c.requires c.multiplied-x.ensures.digits c.if-x-eq0.false in
    omega (arith, r.high, c.requires.0.width.high)

pub overflow_sub-a : goal.overflow_sub-a
overflow_sub-a c =
    let r = some c.args.v c.args.a c.args.b c.multiplied-x.result.m c.requires c.multiplied-x.ensures.digits c.if-x-eq0.false in
    omega (arith, r.low)

pub trimmed-requires : goal.trimmed-requires
trimmed-requires c =
    let k = c.args in
    let x = c.multiplied-x in
    let r = some k.v k.a k.b x.result.m c.requires x.ensures.digits c.if-x-eq0.false in
    let d = product_digits k.v k.a.m k.b.m x.result.m x.ensures.digits r.first r.second in
    (c.requires.0.width, d.0, d.1, omega (arith, r.high, c.requires.0.width.high))

whole : (m : ℕ) → Place m false 0 m 1
whole m = subst (λ (n : ℕ). Place m false 0 n 1) (mul-one m) (place_whole m 0)

pub returns-else-x-eq0 : goal.returns-else-x-eq0
unfolding xor
returns-else-x-eq0 c =
    let k = c.args in
    let x = c.multiplied-x in
    let r = some k.v k.a k.b x.result.m c.requires x.ensures.digits c.if-x-eq0.false in
    let e = k.a.e + k.b.e - 262144 in
    let m = k.a.m * k.b.m in
    let place : x.result.e + e ≡ k.a.e + k.b.e + k.v - 262144 = let p = x.ensures.place in omega (arith, r.low) in
    c.trimmed.ensures (m * 2 ^ e) 1
    (subst (λ (i : ℕ). Place x.result.m x.result.sticky i (m * 2 ^ e) 1) place (place_scale e (x.ensures.keeps m 1 (whole m))))
    ∙ sym (product_is k.up k.v k.a k.b e (let z = bias-is in omega (arith, r.low)))
